-- The first byte in which a store differs from what is due, found part by part; and that it tells whether the store is sound. Assumes nothing.
use mathlib.Core.Path.{◌≡◌, refl, sym, ap, ◌∙◌}
use mathlib.Core.Bool.{Bool, true, false}
use mathlib.Core.List.{List, [], ◌∷◌, ◌++◌, append-nil}
use Prim.Native.Nat.{ℕ, zero, suc, ◌+◌, ◌-◌, ◌/◌, ◌≤◌, ◌<◌}
use native.Mathlib.Nat.{add-zero, zero-add}
use native.Mathlib.Omega.{arith}
use borrow.Author.Tests.{eqb-true, eqb-false, ltb-true, ltb-false}
use lib.Dec.{eqb, ltb}
use lib.ListN.{length, get_or, take, drop, drop_of_length-le}
use lib.Seq.{drop-cons}
use Rattle.runs.specs.Runs.{spread, over, Runs, agree}
use Rattle.runs.proofs.Laws.{runs_all, runs_then}
use Rattle.runs.proofs.Agreed.{agree_out, agree_same, agree_differs, agree_stays}
use Rattle.contacts.specs.declared.Vertex.{Vertex}
use Rattle.outline.specs.Layout.{header_bytes, front_bytes}
use Rattle.words.specs.Words.{four_bytes, bytes_of}
use Rattle.outline.specs.Outlines.{style_words, header_of, body_words, Parts, parts_words, edges_for, parts_of, outline_words, outline_bytes}
use Rattle.outline.specs.Stores.{length_in, due_in, sound_of, first_differing, differing_in}
use Rattle.outline.specs.Theorems.{FormWithin, Headed}
use Rattle.comparing.specs.Compares.{Agrees}
use Rattle.comparing.specs.declared.Compared.{Compared}
use Rattle.outline.proofs.ReadBack.{outline_length, sound_is}
use Rattle.outline.proofs.Differing.{first-append, differing_inside}
use Rattle.outline.proofs.Parts.{stroke_style, bodies_bytes}
use Rattle.outline.specs.declared.Edition.{Edition}
use Rattle.outline.specs.declared.Form.{Form}
use Rattle.outline.specs.declared.Form.TheVariants.{Stroke, Kerb}
use Rattle.kerb.specs.declared.Style.{Style}
use Rattle.turning.specs.Bounds.{Radius}

-- ---- how far a store agrees with what is due is where it differs first

agree_cons : (s : List ℕ) (i v : ℕ) (vs : List ℕ) (t u : Bool) → ltb i (length s) ≡ t → eqb (get_or s i 0) v ≡ u
    → over (agree s) (suc i) (suc i) vs ≡ suc i + first_differing (drop (suc i) s) vs → over (agree s) i i (v ∷ vs) ≡ i + first_differing (drop i s) (v ∷ vs)
unfolding over first_differing
agree_cons s i v vs false u e f more =
    let out : length s ≤ i = ltb-false i (length s) e in
    rw (← agree_out s i i v refl out, drop_of_length-le s out) (agree_stays s i (suc i) vs (omega arith) ∙ sym (add-zero i))
agree_cons s i v vs true true e f more =
    let inl : i < length s = ltb-true i (length s) e in
    rw (← agree_same s i i v refl inl (eqb-true (get_or s i 0) v f), drop-cons s i 0 inl, first_differing, f) (ap (λ k. over (agree s) k (suc i) vs) (omega arith) ∙ more ∙ omega arith)
agree_cons s i v vs true false e f more =
    let inl : i < length s = ltb-true i (length s) e in
    rw (← agree_differs s i i v refl inl (eqb-false (get_or s i 0) v f), drop-cons s i 0 inl, first_differing, f) (agree_stays s i (suc i) vs (omega arith) ∙ sym (add-zero i))

pub agree-first : (s : List ℕ) (i : ℕ) (vs : List ℕ) → over (agree s) i i vs ≡ i + first_differing (drop i s) vs
unfolding over first_differing
agree-first s i [] = nothing (drop i s)
  where
    nothing : (l : List ℕ) → i ≡ i + first_differing l []
    nothing [] = sym (add-zero i)
    nothing (a ∷ l) = sym (add-zero i)
agree-first s i (v ∷ vs) = agree_cons s i v vs (ltb i (length s)) (eqb (get_or s i 0) v) refl refl (agree-first s (suc i) vs)

first_most : (l m : List ℕ) → first_differing l m ≤ length m
unfolding first_differing
first_most [] m = omega arith
first_most (a ∷ l) [] = omega arith
first_most (a ∷ l) (b ∷ m) = go (eqb a b) (first_most l m)
  where
    go : (t : Bool) → first_differing l m ≤ length m → elim t [ true ↦ suc (first_differing l m) | false ↦ 0 ] ≤ suc (length m)
    go true h = omega arith
    go false h = omega arith

-- ---- part by part: it lies in the first part, or in what follows

module _ (s : List ℕ) {xs : List ℕ} (ys : List ℕ) {i f h : ℕ} (p : Runs (agree s) four_bytes i i xs f h) where
  differs_here : f < h → f ≡ over (agree s) i i (spread four_bytes (xs ++ ys))
  differs_here l = sym (agree_stays s f h (spread four_bytes ys) l) ∙ (runs_then p (runs_all f h ys)).out

  differs_past : h ≤ f → over (agree s) h h (spread four_bytes ys) ≡ over (agree s) i i (spread four_bytes (xs ++ ys))
  differs_past l =
      let e : f ≡ h = omega (arith, p.pos, p.out, agree-first s i (spread four_bytes xs), first_most (drop i s) (spread four_bytes xs)) in
      ap (λ k. over (agree s) k h (spread four_bytes ys)) (sym e) ∙ (runs_then p (runs_all f h ys)).out

-- ---- a form's header, from what the code has

module _ (s : List ℕ) {ok : ℕ} {form : Form} where
  pub rest_stroke : {e : Edition} → form ≡ Stroke e → Runs (agree s) four_bytes ok 20 (style_words form) ok (header_bytes form)
  rest_stroke {e} q = rw q (stroke_style e)

pub kerb_within : {form : Form} {y : Style} → form ≡ Kerb y → FormWithin form → Radius y.radius
kerb_within e h = rw e at h

-- ---- the three parts of an outline: how far header, table and bodies agree

module _ (s : List ℕ) (p : Parts) {f h t b d e : ℕ}
    (header : Runs (agree s) four_bytes 0 0 p.header f h) (table : Runs (agree s) four_bytes h h p.table t b) (bodies : Runs (agree s) four_bytes b b (body_words p.edges) d e) where
  parts_first : over (agree s) 0 0 (spread four_bytes (p.header ++ (p.table ++ body_words p.edges))) ≡ first_differing s (bytes_of (parts_words p))
  unfolding parts_words bytes_of
  parts_first = agree-first s 0 (spread four_bytes (p.header ++ (p.table ++ body_words p.edges))) ∙ zero-add _

  parts_header : f < h → f ≡ first_differing s (bytes_of (parts_words p))
  parts_header l = differs_here s _ header l ∙ parts_first

  parts_table : h ≤ f → t < b → t ≡ first_differing s (bytes_of (parts_words p))
  parts_table l k = differs_here s _ table k ∙ differs_past s _ header l ∙ parts_first

  parts_bodies : h ≤ f → b ≤ t → d ≡ first_differing s (bytes_of (parts_words p))
  parts_bodies l k = bodies.out ∙ differs_past s _ table k ∙ differs_past s _ header l ∙ parts_first

-- those of a path: k is how far the header agrees
module _ (s : List ℕ) (f : Form) (g : ℕ) (ps : List ℕ) (vs : List Vertex) {n m k b : ℕ} {c : Compared} (en : n ≡ length vs) (em : m ≡ length (edges_for f g vs)) (eb : b ≡ front_bytes f n)
    (p : Runs (agree s) four_bytes 0 0 (header_of f g n m) k (header_bytes f)) (q : Agrees s f g ps vs c) where
  head : Runs (agree s) four_bytes 0 0 (header_of f g (length vs) (length (edges_for f g vs))) k (header_bytes f)
  head = rw (en, em) at p

  pub first_head : k < header_bytes f → k ≡ first_differing s (outline_bytes f g ps vs)
  unfolding outline_bytes outline_words
  first_head l = parts_header s (parts_of f g ps vs) head q.table q.bodies l

  pub first_table : header_bytes f ≤ k → c.table < b → c.table ≡ first_differing s (outline_bytes f g ps vs)
  unfolding outline_bytes outline_words
  first_table l i = parts_table s (parts_of f g ps vs) head q.table q.bodies l (rw (eb, en) at i)

  pub first_bodies : header_bytes f ≤ k → b ≤ c.table → c.bodies ≡ first_differing s (outline_bytes f g ps vs)
  unfolding outline_bytes outline_words
  first_bodies l i = parts_bodies s (parts_of f g ps vs) head q.table q.bodies l (rw (eb, en) at i)

-- where the bodies that are due end, so does the outline
module _ {s : List ℕ} (f : Form) (g : ℕ) (ps : List ℕ) (vs : List Vertex) {c : Compared} (q : Agrees s f g ps vs c) where
  pub end_edges : {n b : ℕ} → n ≡ length vs → b ≡ front_bytes f n → (c.end - b) / 16 ≡ length (edges_for f g vs)
  end_edges en eb = omega (arith, eb ∙ ap (front_bytes f) en, q.bodies.pos, bodies_bytes (edges_for f g vs))

  pub end_is : c.end ≡ length (outline_bytes f g ps vs)
  end_is = omega (arith, q.bodies.pos, bodies_bytes (edges_for f g vs), outline_length f g ps vs)

-- ---- a store that passed its header is sound just where it differs nowhere

first-take : (n : ℕ) (l m : List ℕ) → first_differing (take n l) m < n → first_differing (take n l) m ≡ first_differing l m
unfolding first_differing
first-take zero l m h = absurd (omega arith)
first-take (suc n) [] m h = refl
first-take (suc n) (a ∷ l) [] h = refl
first-take (suc n) (a ∷ l) (b ∷ m) h = go (eqb a b) h (first-take n l m)
  where
    go : (t : Bool) → elim t [ true ↦ suc (first_differing (take n l) m) | false ↦ 0 ] < suc n → (first_differing (take n l) m < n → first_differing (take n l) m ≡ first_differing l m)
        → ◌≡◌ {A = ℕ} (elim t [ true ↦ suc (first_differing (take n l) m) | false ↦ 0 ]) (elim t [ true ↦ suc (first_differing l m) | false ↦ 0 ])
    go true k r = ap suc (r (omega arith))
    go false k r = refl

first_whole : (m r : List ℕ) → first_differing (m ++ r) m ≡ length m
unfolding first_differing
first_whole m r = ap (first_differing (m ++ r)) (sym (append-nil m)) ∙ first-append m r [] ∙ ap (λ k. length m + k) (nothing r) ∙ add-zero (length m)
  where
    nothing : (l : List ℕ) → first_differing l [] ≡ 0
    nothing [] = refl
    nothing (a ∷ l) = refl

sound_whole : (s : List ℕ) → sound_of s ≡ true → first_differing s (due_in s) ≡ length (due_in s)
sound_whole s e =
    ap (λ l. first_differing l (due_in s)) (sound_is s e) ∙ first_whole (due_in s) (drop (length_in s) s)

unsound_first : (s : List ℕ) → Headed s → sound_of s ≡ false → (differing_in s ≡ first_differing s (due_in s)) × (first_differing s (due_in s) < length (due_in s))
unfolding differing_in
unsound_first s h e =
    let d = differing_inside s h e in
    let f : differing_in s ≡ first_differing s (due_in s) = first-take (length_in s) s (due_in s) d.0 in
    (f, omega (arith, d.1))

pub not_sound : (s : List ℕ) → Headed s → first_differing s (due_in s) < length (due_in s) → (sound_of s ≡ false) × (differing_in s ≡ first_differing s (due_in s))
not_sound s h l = go (sound_of s) refl
  where
    go : (t : Bool) → sound_of s ≡ t → (sound_of s ≡ false) × (differing_in s ≡ first_differing s (due_in s))
    go true e = absurd (omega (arith, sound_whole s e))
    go false e = (e, (unsound_first s h e).0)

pub is_sound : (s : List ℕ) → Headed s → length (due_in s) ≤ first_differing s (due_in s) → sound_of s ≡ true
is_sound s h l = go (sound_of s) refl
  where
    go : (t : Bool) → sound_of s ≡ t → sound_of s ≡ true
    go true e = e
    go false e = absurd (omega (arith, (unsound_first s h e).1))
