-- Why a replaced vertex changes few bodies: after a drawn or a broken step, what later bodies can see of the walk is fixed by that step's two vertices.
use Rattle.std.specs.Prelude.{Option, Some, None}
use mathlib.Core.Path.{◌≡◌, refl, sym, ap, ◌∙◌}
use mathlib.Core.Bool.{Bool, true, false, true≢false}
use mathlib.Core.List.{List, [], ◌∷◌, ◌++◌}
use Prim.Native.Nat.{ℕ, zero, suc, ◌+◌, ◌-◌, ◌<◌}
use native.Mathlib.Omega.{arith}
use native.Mathlib.Nat.{add-suc}
use lib.ListN.{length, get_or, take, drop, set, length-drop}
use lib.Seq.{get_or-drop}
use Rattle.plane.specs.Directions.{step_of}
use Rattle.plane.specs.declared.Vector.{Vector}
use Rattle.turning.specs.Edges.{edge_of}
use Rattle.contacts.specs.Contacts.{kind_of, section_of}
use Rattle.contacts.specs.Covering.{covered_of}
use Rattle.variable_stroke.specs.Chains.{fresh_of, finish_last, finish_of, meet_last, drawn_of, break_end, leave_edges, leave_chain, marked_of, emitted_of, next_chain, next_last, next_closing, next_of, start_of}
use Rattle.paths.specs.Paths.{none, bodies_from, bodies_at, bodies_of}
use Rattle.locality.specs.Local.{seen_last, seen_chain, seen, settles, thin_from, thin_run, reach_of, BodiesFromBefore, EarlierKept, AlikeEmitAlike, SettledAlike, LaterKept, ReachKept}
use Rattle.contacts.specs.declared.Vertex.{Vertex}
use Rattle.turning.specs.declared.Edge.{Edge}
use Rattle.contacts.specs.declared.Section.{Section}
use Rattle.contacts.specs.declared.Kind.{Kind}
use Rattle.contacts.specs.declared.Kind.TheVariants.{Broken, Drawn, Thin}
use Rattle.joins.specs.declared.Cap.{Cap}
use Rattle.joins.specs.declared.Cap.TheVariants.{Butt, Round}
use Rattle.variable_stroke.specs.declared.Chain.{Chain}
use Rattle.variable_stroke.specs.declared.Walk.{Walk}

-- ---- a chain's finish and its next section show no more

finish_last_lem : (t : Vector) (l : Option Section) (c : Chain) (k : Cap) → c.last ≡ l → finish_last t (seen_last l c).last (seen_last l c) k ≡ finish_last t l c k
unfolding seen_last finish_last
finish_last_lem t None c k e = rw e
finish_last_lem t (Some s) c k e = refl

finish_seen : (t : Vector) (c : Chain) (k : Cap) → finish_of t (seen_chain c) k ≡ finish_of t c k
unfolding seen_chain finish_of
finish_seen t c k = finish_last_lem t c.last c k refl

meet_last_lem : (t : Vector) (l : Option Section) (c : Chain) (s : Section) → c.last ≡ l → meet_last t (seen_last l c).last (seen_last l c).cap s ≡ meet_last t l c.cap s
unfolding seen_last meet_last
meet_last_lem t None c s e = rw e
meet_last_lem t (Some m) c s e = refl

drawn_seen : (t : Vector) (c : Chain) (s : Section) → drawn_of t (seen_chain c) s ≡ drawn_of t c s
unfolding seen_chain drawn_of
drawn_seen t c s = ap (λ r. edge_of s.left.b s.left.a ++ (edge_of s.right.a s.right.b ++ r)) (meet_last_lem t c.last c s refl)

-- ---- nor does a step

leave_edges_lem : (t : Vector) (w : Walk) (b : Vertex) → leave_edges t (seen w) b ≡ leave_edges t w b
unfolding seen leave_edges
leave_edges_lem t w b = λ i. elim (covered_of w.previous b) [ true ↦ finish_seen t w.chain Round i | false ↦ [] ]

leave_drawn : (t : Vector) (x : Bool) (a : Vertex) (c : Chain) (s : Section)
    → drawn_of t (elim x [ true ↦ fresh_of a Butt | false ↦ seen_chain c ]) s ≡ drawn_of t (elim x [ true ↦ fresh_of a Butt | false ↦ c ]) s
leave_drawn t true a c s = refl
leave_drawn t false a c s = drawn_seen t c s

emitted_seen : (t : Vector) (w : Walk) (b : Vertex) → emitted_of t (seen w) b ≡ emitted_of t w b
unfolding seen emitted_of leave_chain
emitted_seen t w b = λ i. elim (kind_of w.at b) [
  | Broken ↦ finish_seen t w.chain (break_end w.at b) i
  | Drawn ↦ leave_edges_lem t w b i ++ leave_drawn t (covered_of w.previous b) w.at w.chain (section_of w.at b) i
  | Thin ↦ leave_edges_lem t w b i
]

marked_of-seen : (l : Option Section) (c : Chain) → c.last ≡ l → seen_chain (marked_of (seen_last l c) (seen_last l c).last) ≡ seen_chain (marked_of c l)
unfolding seen_chain seen_last marked_of
marked_of-seen None c e = rw e
marked_of-seen (Some s) c e = refl

leave_marked_of : (x : Bool) (a : Vertex) (c : Chain)
    → seen_chain (marked_of (elim x [ true ↦ fresh_of a Butt | false ↦ seen_chain c ]) (elim x as (λ _. Chain) [ true ↦ fresh_of a Butt | false ↦ seen_chain c ]).last)
    ≡ seen_chain (marked_of (elim x [ true ↦ fresh_of a Butt | false ↦ c ]) (elim x as (λ _. Chain) [ true ↦ fresh_of a Butt | false ↦ c ]).last)
unfolding seen_chain
leave_marked_of true a c = refl
leave_marked_of false a c = marked_of-seen c.last c refl

chain_seen : (k : Kind) (w : Walk) (b : Vertex) → seen_chain (next_chain k (seen w) b) ≡ seen_chain (next_chain k w b)
unfolding seen next_chain leave_chain seen_chain seen_last marked_of fresh_of
chain_seen Broken w b = refl
chain_seen Drawn w b = refl
chain_seen Thin w b = leave_marked_of (covered_of w.previous b) w.at w.chain

next_seen : (w : Walk) (b : Vertex) → seen (next_of (seen w) b) ≡ seen (next_of w b)
unfolding seen next_of
next_seen w b = λ i. record { at = b; chain = chain_seen (kind_of w.at b) w b i; previous = next_last (kind_of w.at b) w.at b; closing = Round }

-- ---- so all bodies after the next step are those of what is seen

closing_seen : (t : Vector) (w : Walk) (b : Vertex) → finish_of t (next_of (seen w) b).chain (next_of (seen w) b).closing ≡ finish_of t (next_of w b).chain (next_of w b).closing
unfolding seen next_of
closing_seen t w b =
    let k = kind_of w.at b in
    let z = next_closing k w.previous b in
    sym (finish_seen t (next_chain k (seen w) b) z) ∙ ap (λ c. finish_of t c z) (chain_seen k w b) ∙ finish_seen t (next_chain k w b) z

bodies_seen : (t : Vector) (w : Walk) (b : Vertex) (bs : List Vertex) → bodies_from t (seen w) (b ∷ bs) ≡ bodies_from t w (b ∷ bs)
unfolding bodies_from
bodies_seen t w b [] = λ i. emitted_seen t w b i ∷ closing_seen t w b i ∷ []
bodies_seen t w b (b' ∷ bs) =
    let rest : bodies_from t (next_of (seen w) b) (b' ∷ bs) ≡ bodies_from t (next_of w b) (b' ∷ bs) =
    sym (bodies_seen t (next_of (seen w) b) b' bs) ∙ ap (λ u. bodies_from t u (b' ∷ bs)) (next_seen w b) ∙ bodies_seen t (next_of w b) b' bs in
    λ i. emitted_seen t w b i ∷ rest i

pub alike_emit_alike : AlikeEmitAlike
alike_emit_alike t u w b bs e = sym (bodies_seen t u b bs) ∙ ap (λ x. bodies_from t x (b ∷ bs)) e ∙ bodies_seen t w b bs

-- ---- and a drawn or a broken step fixes what is seen

walk_of : Vertex → Chain → Option Section → Cap → Walk
walk_of a c l k = record { at = a; chain = c; previous = l; closing = k }

settled_chain : (k : Kind) (a b : Vertex) (c d : Chain) (l m : Option Section) (h j : Cap) → settles k ≡ true
    → seen_chain (next_chain k (walk_of a c l h) b) ≡ seen_chain (next_chain k (walk_of a d m j) b)
unfolding settles next_chain walk_of seen_chain seen_last marked_of
settled_chain Broken a b c d l m h j e = refl
settled_chain Drawn a b c d l m h j e = refl
settled_chain Thin a b c d l m h j e = absurd (true≢false (sym e))

settled : (a b : Vertex) (c d : Chain) (l m : Option Section) (h j : Cap) → settles (kind_of a b) ≡ true → seen (next_of (walk_of a c l h) b) ≡ seen (next_of (walk_of a d m j) b)
unfolding seen next_of walk_of
settled a b c d l m h j e =
    λ i. record { at = b; chain = settled_chain (kind_of a b) a b c d l m h j e i; previous = next_last (kind_of a b) a b; closing = Round }

pub settled_alike : SettledAlike
unfolding seen next_of walk_of
settled_alike u w b e h =
    settled u.at b u.chain w.chain u.previous w.previous u.closing w.closing h
    ∙ ap (λ a. seen (next_of (walk_of a w.chain w.previous w.closing) b)) e

-- ---- two walks that reached the same vertex: the bodies after a later drawn or broken step are the same
later_from : (t : Vector) (n : ℕ) (bs : List Vertex) (a : Vertex) (c d : Chain) (l m : Option Section) (h j : Cap)
    → suc n < length bs → settles (kind_of (get_or (a ∷ bs) n none) (get_or bs n none)) ≡ true
    → drop (suc n) (bodies_from t (walk_of a c l h) bs) ≡ drop (suc n) (bodies_from t (walk_of a d m j) bs)
unfolding bodies_from next_of walk_of
later_from t n [] a c d l m h j p e = absurd (omega arith)
later_from t zero (b ∷ []) a c d l m h j p e = absurd (omega arith)
later_from t zero (b ∷ b' ∷ bs) a c d l m h j p e =
    let u = next_of (walk_of a c l h) b in
    let v = next_of (walk_of a d m j) b in
    alike_emit_alike t u v b' bs (settled a b c d l m h j e)
later_from t (suc n) (b ∷ bs) a c d l m h j p e =
    let u = next_of (walk_of a c l h) b in
    let v = next_of (walk_of a d m j) b in
    later_from t n bs b u.chain v.chain u.previous v.previous u.closing v.closing (omega arith) e

-- two walks, whatever vertex they reached
later_any : (t : Vector) (n : ℕ) (bs : List Vertex) (u v : Walk)
    → suc (suc n) < length bs → settles (kind_of (get_or bs n none) (get_or bs (suc n) none)) ≡ true
    → drop (suc (suc n)) (bodies_from t u bs) ≡ drop (suc (suc n)) (bodies_from t v bs)
unfolding bodies_from next_of walk_of
later_any t n [] u v p e = absurd (omega arith)
later_any t n (b ∷ bs) u v p e =
    let x = next_of u b in
    let y = next_of v b in
    later_from t n bs b x.chain y.chain x.previous y.previous x.closing y.closing (omega arith) e

-- a vertex replaced at k of the vertices to come
later_set : (t : Vector) (w : Walk) (bs : List Vertex) (k i : ℕ) (v : Vertex)
    → k < i → suc (suc i) < length bs → settles (kind_of (get_or bs i none) (get_or bs (suc i) none)) ≡ true
    → drop (suc (suc i)) (bodies_from t w (set bs k v)) ≡ drop (suc (suc i)) (bodies_from t w bs)
unfolding bodies_from
later_set t w [] k i v q p e = refl
later_set t w (b ∷ bs) zero zero v q p e = absurd (omega arith)
later_set t w (b ∷ bs) zero (suc i) v q p e = later_any t i bs (next_of w v) (next_of w b) (omega arith) e
later_set t w (b ∷ bs) (suc k) zero v q p e = absurd (omega arith)
later_set t w (b ∷ bs) (suc k) (suc i) v q p e = later_set t (next_of w b) bs k i v (omega arith) (omega arith) e

later_at : (t : Vector) (vs : List Vertex) (k i : ℕ) (v : Vertex)
    → k < i → suc (suc i) < length vs → settles (kind_of (get_or vs i none) (get_or vs (suc i) none)) ≡ true
    → drop (suc (suc i)) (bodies_at t (set vs k v)) ≡ drop (suc (suc i)) (bodies_at t vs)
unfolding bodies_at
later_at t [] k i v q p e = refl
later_at t (u ∷ vs) zero zero v q p e = absurd (omega arith)
later_at t (u ∷ vs) zero (suc i) v q p e = later_any t i vs (start_of v) (start_of u) (omega arith) e
later_at t (u ∷ vs) (suc k) zero v q p e = absurd (omega arith)
later_at t (u ∷ vs) (suc k) (suc i) v q p e = later_set t (start_of u) vs k i v (omega arith) (omega arith) e

pub later_kept : LaterKept
unfolding bodies_of
later_kept g vs k i v q p e = later_at (step_of g) vs k i v q p e

-- ---- the bodies before

before_from : (t : Vector) (w : Walk) (bs cs : List Vertex) (k : ℕ) → take k bs ≡ take k cs → take k (bodies_from t w bs) ≡ take k (bodies_from t w cs)
unfolding bodies_from
before_from t w bs cs zero e = refl
before_from t w [] [] (suc k) e = refl
before_from t w [] (c ∷ cs) (suc k) e = absurd (let z : ◌≡◌ {A = ℕ} 0 (suc (length (take k cs))) = ap length e in omega arith)
before_from t w (b ∷ bs) [] (suc k) e = absurd (let z : ◌≡◌ {A = ℕ} (suc (length (take k bs))) 0 = ap length e in omega arith)
before_from t w (b ∷ bs) (c ∷ cs) (suc k) e =
    let h : b ≡ c = cc in
    let r : take k bs ≡ take k cs = cc in
    (λ i. emitted_of t w (h i) ∷ take k (bodies_from t (next_of w (h i)) bs)) ∙ ap (λ (l : List (List Edge)). emitted_of t w c ∷ l) (before_from t (next_of w c) bs cs k r)

before_at : (t : Vector) (vs us : List Vertex) (k : ℕ) → take k vs ≡ take k us → take k (bodies_at t vs) ≡ take k (bodies_at t us)
unfolding bodies_at
before_at t vs us zero e = refl
before_at t [] [] (suc k) e = refl
before_at t [] (u ∷ us) (suc k) e = absurd (let z : ◌≡◌ {A = ℕ} 0 (suc (length (take k us))) = ap length e in omega arith)
before_at t (v ∷ vs) [] (suc k) e = absurd (let z : ◌≡◌ {A = ℕ} (suc (length (take k vs))) 0 = ap length e in omega arith)
before_at t (v ∷ vs) (u ∷ us) (suc k) e =
    let h : v ≡ u = cc in
    let r : take k vs ≡ take k us = cc in
    (λ i. [] ∷ take k (bodies_from t (start_of (h i)) vs)) ∙ ap (λ (l : List (List Edge)). [] ∷ l) (before_from t (start_of u) vs us k r)

pub bodies_from_before : BodiesFromBefore
unfolding bodies_of
bodies_from_before g vs us k e = before_at (step_of g) vs us k e

take-set : (vs : List Vertex) (k : ℕ) (v : Vertex) → take k (set vs k v) ≡ take k vs
take-set [] k v = refl
take-set (u ∷ vs) zero v = refl
take-set (u ∷ vs) (suc k) v = ap (λ (l : List Vertex). u ∷ l) (take-set vs k v)

pub earlier_kept : EarlierKept
earlier_kept g vs k v = bodies_from_before g (set vs k v) vs k (take-set vs k v)

-- ---- the first such step
run_settles : (a : Vertex) (bs : List Vertex) → thin_from a bs < length bs → settles (kind_of (get_or (a ∷ bs) (thin_from a bs) none) (get_or bs (thin_from a bs) none)) ≡ true
unfolding thin_from
run_settles a [] h = absurd (omega arith)
run_settles a (b ∷ bs) h = go (settles (kind_of a b)) refl h (run_settles b bs)
  where
    at : ℕ → Type 0
    at n = settles (kind_of (get_or (a ∷ b ∷ bs) n none) (get_or (b ∷ bs) n none)) ≡ true

    here : Bool → ℕ
    here x = elim x [ true ↦ 0 | false ↦ suc (thin_from b bs) ]

    go : (x : Bool) → settles (kind_of a b) ≡ x → here x < suc (length bs) → (thin_from b bs < length bs → at (suc (thin_from b bs))) → at (here x)
    go true e h r = e
    go false e h r = r (omega arith)

-- the vertices from k + 1 on
reach_from : (vs : List Vertex) (k : ℕ) (l : List Vertex) → length l ≡ length vs - (k + 1) → ((n : ℕ) → get_or l n none ≡ get_or vs (k + 1 + n) none)
    → k + 2 + thin_run l < length vs → settles (kind_of (get_or vs (k + 1 + thin_run l) none) (get_or vs (suc (k + 1 + thin_run l)) none)) ≡ true
unfolding thin_run
reach_from vs k [] e f h = absurd (omega arith)
reach_from vs k (a ∷ bs) e f h =
    let n = thin_from a bs in
    let g : get_or bs n none ≡ get_or vs (suc (k + 1 + n)) none = f (suc n) ∙ ap (λ (x : ℕ). get_or vs x none) (add-suc (k + 1) n) in
    rw (← f n, ← g) (run_settles a bs (omega arith))

pub reach_kept : ReachKept
unfolding reach_of
reach_kept g vs k v h =
    let r = thin_run (drop (k + 1) vs) in
    let e : k + 2 + r + 1 ≡ suc (suc (k + 1 + r)) = omega arith in
    rw e (later_kept g vs k (k + 1 + r) v (omega arith) (omega arith) (reach_from vs k (drop (k + 1) vs) (length-drop (k + 1) vs) (λ n. get_or-drop (k + 1) vs n none) (omega arith)))
