-- An outline's words are read back one by one: each fits 32 bits, and a coordinate within the limits comes back from its two's complement.
-- Assumes nothing.
use mathlib.Core.Path.{◌≡◌, refl, sym, ap, subst, ◌∙◌}
use mathlib.Core.Bool.{Bool, true, false, ◌&&◌, true≢false}
use mathlib.Core.List.{List, [], ◌∷◌, ◌++◌}
use Prim.Native.Nat.{ℕ, zero, suc, ◌+◌, ◌*◌, ◌^◌, ◌≤◌, ◌<◌}
use native.Mathlib.Nat.{add_comm}
use native.Mathlib.Numerals.{add-one}
use native.Mathlib.Omega.{arith}
use lib.Dec.{eqb}
use lib.IntN.{ℤ, pos, negsuc}
use lib.ListN.{length, get_or, take, drop, length-append, length-replicate, take-append-drop}
use lib.Seq.{get_or-drop, drop-drop, take-append_seam}
use borrow.Author.Tests.{eq-eqb, eqb-true}
use Rattle.runs.specs.Runs.{spread}
use Rattle.plane.specs.Directions.{step_of}
use Rattle.plane.specs.declared.Vector.{Vector}
use Rattle.turning.specs.Edges.{edge_numbers}
use Rattle.turning.specs.Bounds.{Radius}
use Rattle.turning.specs.declared.Edge.{Edge}
use Rattle.contacts.specs.Limits.{allowed_of, first_outside}
use Rattle.variable_stroke.specs.Chains.{next_of, start_of}
use Rattle.paths.specs.Paths.{vertex_numbers, path_numbers, bodies_from, bodies_at, bodies_of, joined, edges_of}
use Rattle.paths.proofs.Most.{edges_most}
use Rattle.contacts.specs.declared.Vertex.{Vertex}
use Rattle.variable_stroke.specs.declared.Walk.{Walk}
use Rattle.kerb.specs.Kerbs.{sections_of, section_edges, join_edges, cap_edges, kerb_bodies, kerb_edges}
use Rattle.kerb.specs.Styles.{join_numbered, style_of}
use Rattle.kerb.specs.declared.Join.{Join}
use Rattle.kerb.specs.declared.Join.TheVariants.{Bevel, Round}
use Rattle.kerb.specs.declared.Style.{Style}
use Rattle.kerb.proofs.KerbMost.{kerb_most}
use Rattle.outline.specs.Layout.{stroke_kind, kerb_kind, edition_number, count_place, stroke_words, stroke_bytes, header_words, entry_words, count_words, length_of}
use Rattle.outline.specs.declared.Edition.{Edition}
use Rattle.outline.specs.declared.Edition.TheVariants.{First, Second}
use Rattle.outline.specs.declared.Form.{Form}
use Rattle.outline.specs.declared.Form.TheVariants.{Stroke, Kerb}
use Rattle.words.specs.Words.{word_of, number_of, words_of, four_bytes, bytes_of, words_in, word_at}
use Rattle.outline.specs.Outlines.{join_word, closed_word, style_words, header_of, post_words, entry_of, table_of, point_words, counts_of, kerb_table, body_words, Parts, parts_words, table_for, edges_for, parts_of, outline_words, outline_bytes}
use Rattle.outline.specs.Stores.{edition_in, kind_in, edition_of, form_in, grade_in, count_in, length_in, radius_in, entries_in, path_in, post_in, posts_from, posts_of, posts_in, post_at, due_in, same_bytes, sound_of}
use Rattle.outline.specs.Theorems.{AllRadius, AllWords, no_posts, Suits, Formed, KeptIsSound, OneOutline, OutlineLength}
use Rattle.words.proofs.Bytes.{Fit, fit_append, words_back, bytes-length, word_fits, words_fit, number_back}
use Rattle.contacts.proofs.Allowed.{inside_of_lem, inside_first}
use Rattle.outline.proofs.FormLengths.{entries_four, entry_more}

-- ---- a store has as many vertices as its header counts, whatever its words

entries_count : (f : Form) (n : ℕ) (ws : List ℕ) → length (entries_in f n ws) ≡ n
unfolding entries_in
entries_count f zero ws = refl
entries_count f (suc n) ws = ap suc (entries_count f n (drop (entry_words f) ws))

pub path_count_in : (s : List ℕ) → length (path_in s) ≡ count_in s
unfolding path_in
path_count_in s = entries_count (form_in s) (count_in s) (drop (header_words (form_in s)) (words_in s))

-- and of a stroke as many posts
pub posts_count : (e : Edition) (n : ℕ) (ws : List ℕ) → length (posts_from (Stroke e) n ws) ≡ n
unfolding posts_from
posts_count e zero ws = refl
posts_count e (suc n) ws = ap suc (posts_count e n (drop (stroke_words e) ws))

pub posts_count_in : (s : List ℕ) {e : Edition} → form_in s ≡ Stroke e → length (posts_in s) ≡ count_in s
unfolding posts_in
posts_count_in s {e} h = rw h (posts_count e (count_in s) (drop 5 (words_in s)))

-- one by one
post_from : (e : Edition) (n : ℕ) (ws : List ℕ) (k : ℕ) → k < n → get_or (posts_from (Stroke e) n ws) k 0 ≡ post_in e (drop (stroke_words e * k) ws)
unfolding posts_from
post_from e zero ws k h = absurd (omega arith)
post_from e (suc n) ws zero h = let z : stroke_words e * 0 ≡ 0 = omega arith in rw z refl
post_from e (suc n) ws (suc k) h =
    let q : stroke_words e + stroke_words e * k ≡ stroke_words e * suc k = sym (entry_more e k ∙ add_comm (stroke_words e * k) (stroke_words e)) ∙ ap (λ (j : ℕ). stroke_words e * j) (add-one k) in
    post_from e n (drop (stroke_words e) ws) k (omega arith) ∙ ap (post_in e) (drop-drop (stroke_words e * k) (stroke_words e) ws ∙ ap (λ (j : ℕ). drop j ws) q)

pub post_each : (e : Edition) (n : ℕ) (s : List ℕ) (k : ℕ) → k < n → get_or (posts_of (Stroke e) n s) k 0 ≡ post_at e s k
unfolding post_at
post_each e n s k h = post_from e n (drop 5 (words_in s)) k h ∙ ap (post_in e) (drop-drop (stroke_words e * k) 5 (words_in s))

-- a store of kind 0 is of a stroke
pub form_stroke : (s : List ℕ) → kind_in s ≡ stroke_kind → form_in s ≡ Stroke (edition_of (edition_in s))
unfolding form_in
form_stroke s e = rw (e, form_in)

-- ---- a vertex within the limits, and a style

radius_back : (z : ℤ) → Radius z → pos (word_of z) ≡ z
unfolding word_of
radius_back (pos n) h = ap pos (omega (arith, h.high))
radius_back (negsuc n) h = absurd h.low.le

both : (a b : Bool) → (a && b) ≡ true → (a ≡ true) × (b ≡ true)
both true b e = (refl, e)
both false b e = absurd (true≢false (sym e))

vertex_back : (v : Vertex) {r : ℤ} → allowed_of v ≡ true → r ≡ v.radius → record { x = number_of (word_of v.x); y = number_of (word_of v.y); radius = r } ≡ v
unfolding allowed_of
vertex_back v h k =
    let h₅ = both _ _ h in
    let h₄ = both _ _ h₅.0 in
    let h₃ = both _ _ h₄.0 in
    let h₂ = both _ _ h₃.0 in
    let h₁ = both _ _ h₂.0 in
    λ i. record { x = number_back v.x h₁.0 h₁.1 i; y = number_back v.y h₂.1 h₃.1 i; radius = k i }

entries_back : (e : Edition) (ps : List ℕ) (vs : List Vertex) (bs : List (List Edge)) (ws rest : List ℕ) → length vs ≤ length bs → first_outside vs ≡ length vs
    → entries_in (Stroke e) (length vs) ((table_of e ps vs bs ++ ws) ++ rest) ≡ vs
unfolding entries_in radius_in table_of entry_of post_words stroke_words count_place
entries_back e ps [] bs ws rest h k = refl
entries_back e ps (v ∷ vs) [] ws rest h k = absurd (omega arith)
entries_back First ps (v ∷ vs) (b ∷ bs) ws rest h k =
    let f = inside_first v vs k in
    λ i. vertex_back v f.0 (radius_back v.radius (inside_of_lem f.0).radius) i ∷ entries_back First (drop 1 ps) vs bs ws rest (omega arith) f.1 i
entries_back Second ps (v ∷ vs) (b ∷ bs) ws rest h k =
    let f = inside_first v vs k in
    λ i. vertex_back v f.0 (radius_back v.radius (inside_of_lem f.0).radius) i ∷ entries_back Second (drop 1 ps) vs bs ws rest (omega arith) f.1 i

-- a post for each vertex comes back from edition 2; in edition 1 there is none
posts_back : (ps : List ℕ) (vs : List Vertex) (bs : List (List Edge)) (ws rest : List ℕ) → length ps ≡ length vs → length vs ≤ length bs
    → posts_from (Stroke Second) (length vs) ((table_of Second ps vs bs ++ ws) ++ rest) ≡ ps
unfolding posts_from post_in table_of entry_of post_words stroke_words count_place
posts_back [] [] bs ws rest e h = refl
posts_back [] (v ∷ vs) bs ws rest e h = absurd (omega arith)
posts_back (p ∷ ps) [] bs ws rest e h = absurd (omega arith)
posts_back (p ∷ ps) (v ∷ vs) [] ws rest e h = absurd (omega arith)
posts_back (p ∷ ps) (v ∷ vs) (b ∷ bs) ws rest e h = ap (λ (l : List ℕ). p ∷ l) (posts_back ps vs bs ws rest (omega arith) (omega arith))

posts_none : (n : ℕ) (ws : List ℕ) → posts_from (Stroke First) n ws ≡ no_posts n
unfolding posts_from post_in no_posts
posts_none zero ws = refl
posts_none (suc n) ws = ap (λ (l : List ℕ). 0 ∷ l) (posts_none n (drop (stroke_words First) ws))

points_back : (y : Style) (vs : List Vertex) (cs : List (List Edge)) (ws rest : List ℕ) → AllRadius y.radius vs → first_outside vs ≡ length vs
    → entries_in (Kerb y) (length vs) ((kerb_table vs cs ++ ws) ++ rest) ≡ vs
unfolding entries_in radius_in kerb_table point_words spread
points_back y [] cs ws rest h k = refl
points_back y (v ∷ vs) cs ws rest h k =
    let f = inside_first v vs k in
    λ i. vertex_back v f.0 (sym h.0) i ∷ points_back y vs cs ws rest h.1 f.1 i

edition_back : (e : Edition) → edition_of (edition_number e) ≡ e
unfolding edition_of edition_number
edition_back First = refl
edition_back Second = refl

-- and a number that is one comes back from its edition
pub edition_again : (w : ℕ) → 1 ≤ w → w ≤ 2 → w ≡ edition_number (edition_of w)
unfolding edition_of edition_number
edition_again zero h k = absurd (omega arith)
edition_again (suc zero) h k = refl
edition_again (suc (suc zero)) h k = refl
edition_again (suc (suc (suc w))) h k = absurd (omega arith)

join_back : (j : Join) → join_numbered (join_word j) ≡ j
unfolding join_numbered join_word
join_back Bevel = refl
join_back Round = refl

closed_back : (c : Bool) → eqb (closed_word c) 1 ≡ c
unfolding closed_word
closed_back true = refl
closed_back false = refl

style_back : (y : Style) → Radius y.radius → style_of (word_of y.radius) (join_word y.join) (closed_word y.closed) ≡ y
unfolding style_of
style_back y h = λ i. record { radius = radius_back y.radius h i; join = join_back y.join i; closed = closed_back y.closed i }

-- ---- how long an outline's parts are

from_count : (t : Vector) (w : Walk) (bs : List Vertex) → length (bodies_from t w bs) ≡ suc (length bs)
unfolding bodies_from
from_count t w [] = refl
from_count t w (b ∷ bs) = ap suc (from_count t (next_of w b) bs)

at_count : (t : Vector) (vs : List Vertex) → length (bodies_at t vs) ≡ suc (length vs)
unfolding bodies_at
at_count t [] = refl
at_count t (v ∷ vs) = ap suc (from_count t (start_of v) vs)

pub bodies_count : (g : ℕ) (vs : List Vertex) → length (bodies_of g vs) ≡ suc (length vs)
unfolding bodies_of
bodies_count g vs = at_count (step_of g) vs

pub header_length : (f : Form) (g n m : ℕ) → length (header_of f g n m) ≡ header_words f
unfolding header_of style_words
header_length (Stroke e) g n m = refl
header_length (Kerb y) g n m = refl

pub stroke_length : (e : Edition) (ps : List ℕ) (vs : List Vertex) (bs : List (List Edge)) → length bs ≡ suc (length vs) → length (table_of e ps vs bs) ≡ stroke_words e * length vs + 1
unfolding table_of entry_of post_words stroke_words count_place
stroke_length e ps [] [] h = absurd (omega arith)
stroke_length e ps [] (b ∷ bs) h = omega arith
stroke_length e ps (v ∷ vs) [] h = absurd (omega arith)
stroke_length First ps (v ∷ vs) (b ∷ bs) h = omega (arith, stroke_length First (drop 1 ps) vs bs (omega arith))
stroke_length Second ps (v ∷ vs) (b ∷ bs) h = omega (arith, stroke_length Second (drop 1 ps) vs bs (omega arith))

kerb_length : (vs : List Vertex) (bs : List (List Edge)) → length (kerb_table vs bs) ≡ 2 * length vs + length (counts_of bs)
unfolding kerb_table point_words spread
kerb_length [] bs = omega arith
kerb_length (v ∷ vs) bs = omega (arith, kerb_length vs bs)

pub table_length : (f : Form) (g : ℕ) (ps : List ℕ) (vs : List Vertex) → length (table_for f g ps vs) ≡ entry_words f * length vs + count_words f
unfolding kerb_bodies counts_of
table_length (Stroke e) g ps vs = stroke_length e ps vs (bodies_of g vs) (bodies_count g vs)
table_length (Kerb y) g ps vs = kerb_length vs (kerb_bodies g y vs)

pub numbers_length : (es : List Edge) → length (body_words es) ≡ 4 * length es
unfolding body_words words_of spread edge_numbers
numbers_length [] = refl
numbers_length (e ∷ es) = omega (arith, numbers_length es)

parts_length : (p : Parts) → length (bytes_of (parts_words p)) ≡ 4 * length p.header + 4 * length p.table + 16 * length p.edges
unfolding parts_words
parts_length p = omega (
  arith,
  bytes-length (p.header ++ (p.table ++ body_words p.edges)),
  length-append p.header (p.table ++ body_words p.edges),
  length-append p.table (body_words p.edges),
  numbers_length p.edges,
)

pub outline_length : OutlineLength
unfolding outline_bytes outline_words
outline_length (Stroke e) g ps vs =
    omega (arith, parts_length (parts_of (Stroke e) g ps vs), header_length (Stroke e) g (length vs) (length (edges_for (Stroke e) g vs)), table_length (Stroke e) g ps vs, entries_four e (length vs))
outline_length (Kerb y) g ps vs =
    omega (arith, parts_length (parts_of (Kerb y) g ps vs), header_length (Kerb y) g (length vs) (length (edges_for (Kerb y) g vs)), table_length (Kerb y) g ps vs)

pub few_edges : (f : Form) (g : ℕ) (vs : List Vertex) → length vs ≤ 4096 → length (edges_for f g vs) < 2 ^ 32
few_edges (Stroke e) g vs h = omega (arith, edges_most g vs)
few_edges (Kerb y) g vs h = omega (arith, kerb_most g y vs)

-- ---- its words fit

post_fits : (ps : List ℕ) → AllWords ps → get_or ps 0 0 < 2 ^ 32
post_fits [] h = omega arith
post_fits (p ∷ ps) h = h.0

posts_fit : (ps : List ℕ) → AllWords ps → AllWords (drop 1 ps)
posts_fit [] h = tt
posts_fit (p ∷ ps) h = h.1

stroke_fits : (e : Edition) (ps : List ℕ) (vs : List Vertex) (bs : List (List Edge)) → AllWords ps → length (joined bs) < 2 ^ 32 → Fit (table_of e ps vs bs)
unfolding table_of entry_of post_words joined
stroke_fits e ps [] [] k h = tt
stroke_fits e ps (v ∷ vs) [] k h = tt
stroke_fits e ps [] (b ∷ bs) k h = (omega (arith, length-append b (joined bs)), tt)
stroke_fits First ps (v ∷ vs) (b ∷ bs) k h =
    let more = stroke_fits First (drop 1 ps) vs bs (posts_fit ps k) (omega (arith, length-append b (joined bs))) in
    (word_fits v.x, (word_fits v.y, (word_fits v.radius, (omega (arith, length-append b (joined bs)), more))))
stroke_fits Second ps (v ∷ vs) (b ∷ bs) k h =
    let more = stroke_fits Second (drop 1 ps) vs bs (posts_fit ps k) (omega (arith, length-append b (joined bs))) in
    (word_fits v.x, (word_fits v.y, (word_fits v.radius, (post_fits ps k, (omega (arith, length-append b (joined bs)), more)))))

zeros_fit : (n : ℕ) → AllWords (no_posts n)
unfolding no_posts
zeros_fit zero = tt
zeros_fit (suc n) = (omega arith, zeros_fit n)

suits_fit : (f : Form) (ps : List ℕ) (vs : List Vertex) → Suits f ps vs → AllWords ps
suits_fit (Stroke First) ps vs h = rw h (zeros_fit (length vs))
suits_fit (Stroke Second) ps vs h = h.1
suits_fit (Kerb y) ps vs h = rw h.2 tt

points_fit : (vs : List Vertex) → Fit (spread point_words vs)
unfolding spread point_words
points_fit [] = tt
points_fit (v ∷ vs) = (word_fits v.x, (word_fits v.y, points_fit vs))

table_fits : (f : Form) (g : ℕ) (ps : List ℕ) (vs : List Vertex) → AllWords ps → length (edges_for f g vs) < 2 ^ 32 → Fit (table_for f g ps vs)
unfolding edges_of kerb_table kerb_bodies kerb_edges counts_of
table_fits (Stroke e) g ps vs k h = stroke_fits e ps vs (bodies_of g vs) k h
table_fits (Kerb y) g ps vs k h =
    let ss = sections_of y vs in
    let a = section_edges ss in
    let b = join_edges (step_of g) y ss in
    let c = cap_edges y ss in
    let l : length a + (length b + length c) < 2 ^ 32 = omega (arith, h, length-append a (b ++ c), length-append b c) in
    fit_append (spread point_words vs) (length a ∷ length b ∷ length c ∷ []) (points_fit vs) (omega arith, (omega arith, (omega arith, tt)))

join_fits : (j : Join) → join_word j < 2 ^ 32
unfolding join_word
join_fits Bevel = omega arith
join_fits Round = omega arith

closed_fits : (c : Bool) → closed_word c < 2 ^ 32
unfolding closed_word
closed_fits true = omega arith
closed_fits false = omega arith

edition_fits : (e : Edition) → edition_number e < 2 ^ 32
unfolding edition_number
edition_fits First = omega arith
edition_fits Second = omega arith

header_fits : (f : Form) (g n m : ℕ) → g ≤ 8 → n ≤ 4096 → m < 2 ^ 32 → Fit (header_of f g n m)
unfolding header_of style_words
header_fits (Stroke e) g n m h k l = (edition_fits e, (omega arith, (omega arith, (omega arith, (l, tt)))))
header_fits (Kerb y) g n m h k l =
    (omega arith, (omega arith, (omega arith, (omega arith, (l, (word_fits y.radius, (join_fits y.join, (closed_fits y.closed, tt))))))))

-- ---- what a store that begins with an outline says

module _ (f : Form) (g : ℕ) (ps : List ℕ) (vs : List Vertex) (rest : List ℕ) (h : Formed f g ps vs) where
  outline_fits : Fit (outline_words f g ps vs)
  unfolding outline_words parts_words body_words
  outline_fits =
      let m = few_edges f g vs h.0.count in
      fit_append (header_of f g (length vs) (length (edges_for f g vs))) _ (header_fits f g _ _ h.0.high h.0.count m) (fit_append (table_for f g ps vs) _ (table_fits f g ps vs (suits_fit f ps vs h.1) m) (words_fit _))

  pub store-words : words_in (outline_bytes f g ps vs ++ rest) ≡ outline_words f g ps vs ++ words_in rest
  unfolding outline_bytes
  store-words = words_back (outline_words f g ps vs) rest outline_fits

  pub header_word : (n : ℕ) → word_at (outline_bytes f g ps vs ++ rest) n ≡ get_or (outline_words f g ps vs ++ words_in rest) n 0
  unfolding word_at
  header_word n = ap (λ (l : List ℕ). get_or l n 0) store-words

  pub grade_back : grade_in (outline_bytes f g ps vs ++ rest) ≡ g
  unfolding grade_in outline_words parts_words header_of
  grade_back = header_word 2

  pub count_back : count_in (outline_bytes f g ps vs ++ rest) ≡ length vs
  unfolding count_in outline_words parts_words header_of
  count_back = header_word 3

-- by its words
form_of : List ℕ → Form
form_of ws = elim (eqb (get_or ws 1 0) kerb_kind) [ true ↦ Kerb (style_of (get_or ws 5 0) (get_or ws 6 0) (get_or ws 7 0)) | false ↦ Stroke (edition_of (get_or ws 0 0)) ]

pub form_back : (f : Form) (g : ℕ) (ps : List ℕ) (vs : List Vertex) (rest : List ℕ) → Formed f g ps vs → form_in (outline_bytes f g ps vs ++ rest) ≡ f
unfolding form_of form_in edition_in kind_in word_at outline_words parts_words header_of style_words
form_back (Stroke e) g ps vs rest h = ap form_of (store-words (Stroke e) g ps vs rest h) ∙ ap Stroke (edition_back e)
form_back (Kerb y) g ps vs rest h = ap form_of (store-words (Kerb y) g ps vs rest h) ∙ ap Kerb (style_back y h.1.0)

-- the edition of a stroke's outline
pub edition_is : (e : Edition) (g : ℕ) (ps : List ℕ) (vs : List Vertex) (rest : List ℕ) → Formed (Stroke e) g ps vs → edition_of (edition_in (outline_bytes (Stroke e) g ps vs ++ rest)) ≡ e
unfolding edition_in outline_words parts_words header_of
edition_is e g ps vs rest h = ap edition_of (header_word (Stroke e) g ps vs rest h 0) ∙ edition_back e

-- past the header
words_past : (f : Form) (g n m : ℕ) (ws rest : List ℕ) → drop (header_words f) ((header_of f g n m ++ ws) ++ rest) ≡ ws ++ rest
unfolding header_of style_words
words_past (Stroke e) g n m ws rest = refl
words_past (Kerb y) g n m ws rest = refl

table_back : (f : Form) (g : ℕ) (ps : List ℕ) (vs : List Vertex) (ws rest : List ℕ) → Formed f g ps vs → entries_in f (length vs) ((table_for f g ps vs ++ ws) ++ rest) ≡ vs
table_back (Stroke e) g ps vs ws rest h = entries_back e ps vs (bodies_of g vs) ws rest (omega (arith, bodies_count g vs)) h.0.inside
table_back (Kerb y) g ps vs ws rest h = points_back y vs (kerb_bodies g y vs) ws rest h.1.1 h.0.inside

-- the posts of a form that suit it
table_posts : (f : Form) (g : ℕ) (ps : List ℕ) (vs : List Vertex) (ws rest : List ℕ) → Suits f ps vs → posts_from f (length vs) ((table_for f g ps vs ++ ws) ++ rest) ≡ ps
unfolding posts_from
table_posts (Stroke First) g ps vs ws rest h = posts_none (length vs) _ ∙ sym h
table_posts (Stroke Second) g ps vs ws rest h = posts_back ps vs (bodies_of g vs) ws rest h.0 (omega (arith, bodies_count g vs))
table_posts (Kerb y) g ps vs ws rest h = sym h.2

module _ (f : Form) (g : ℕ) (ps : List ℕ) (vs : List Vertex) (rest : List ℕ) (h : Formed f g ps vs) where
  pub posts_again : posts_in (outline_bytes f g ps vs ++ rest) ≡ ps
  unfolding posts_in outline_words parts_words
  posts_again =
      rw (form_back f g ps vs rest h, count_back f g ps vs rest h, store-words f g ps vs rest h, words_past f g (length vs) (length (edges_for f g vs)) (table_for f g ps vs ++ body_words (edges_for f g vs)) (words_in rest))
      (table_posts f g ps vs _ _ h.1)

  pub vertices_back : path_in (outline_bytes f g ps vs ++ rest) ≡ vs
  unfolding path_in outline_words parts_words
  vertices_back =
      rw (form_back f g ps vs rest h, count_back f g ps vs rest h, store-words f g ps vs rest h, words_past f g (length vs) (length (edges_for f g vs)) (table_for f g ps vs ++ body_words (edges_for f g vs)) (words_in rest))
      (table_back f g ps vs _ _ h)

  pub length_back : length_in (outline_bytes f g ps vs ++ rest) ≡ length (outline_bytes f g ps vs)
  unfolding length_in outline_words parts_words header_of
  length_back = rw (form_back f g ps vs rest h, count_back f g ps vs rest h, header_word f g ps vs rest h 4) (sym (outline_length f g ps vs))

pub same_list : (l : List ℕ) → same_bytes l l ≡ true
unfolding same_bytes
same_list [] = refl
same_list (a ∷ l) = rw (eq-eqb a a refl, same_bytes) (same_list l)

pub sound_back : (f : Form) (g : ℕ) (ps : List ℕ) (vs : List Vertex) (rest : List ℕ) → Formed f g ps vs → sound_of (outline_bytes f g ps vs ++ rest) ≡ true
unfolding sound_of due_in
sound_back f g ps vs rest h =
    rw (length_back f g ps vs rest h, form_back f g ps vs rest h, grade_back f g ps vs rest h, posts_again f g ps vs rest h, vertices_back f g ps vs rest h, take-append_seam (outline_bytes f g ps vs) rest) (same_list (outline_bytes f g ps vs))

pub kept_is_sound : KeptIsSound
kept_is_sound f g ps vs rest h = (form_back f g ps vs rest h, grade_back f g ps vs rest h, posts_again f g ps vs rest h, vertices_back f g ps vs rest h, length_back f g ps vs rest h, sound_back f g ps vs rest h)

-- ---- the posts of a sound store suit it

words_small : (ws rest : List ℕ) (i : ℕ) → i < length ws → get_or (words_in (bytes_of ws ++ rest)) i 0 < 2 ^ 32
unfolding words_in bytes_of spread four_bytes
words_small [] rest i h = absurd (omega arith)
words_small (w ∷ ws) rest zero h = omega arith
words_small (w ∷ ws) rest (suc i) h = words_small ws rest i (omega arith)

posts_small : (n : ℕ) (ws : List ℕ) → ((i : ℕ) → i < 5 * n → get_or ws i 0 < 2 ^ 32) → AllWords (posts_from (Stroke Second) n ws)
unfolding posts_from post_in stroke_words count_place
posts_small zero ws h = tt
posts_small (suc n) ws h = (h 3 (omega arith), posts_small n (drop 5 ws) (λ i l. rw (get_or-drop 5 ws i 0) (h (5 + i) (omega (arith, l)))))

pub same_is : (l m : List ℕ) → same_bytes l m ≡ true → l ≡ m
unfolding same_bytes
same_is [] [] e = refl
same_is [] (b ∷ m) e = absurd (true≢false (sym e))
same_is (a ∷ l) [] e = absurd (true≢false (sym e))
same_is (a ∷ l) (b ∷ m) e = go (eqb a b) refl e (same_is l m)
  where
    go : (t : Bool) → eqb a b ≡ t → elim t [ true ↦ same_bytes l m | false ↦ false ] ≡ true → (same_bytes l m ≡ true → l ≡ m) → a ∷ l ≡ b ∷ m
    go true f k r = λ i. eqb-true a b f i ∷ r k i
    go false f k r = absurd (true≢false (sym k))

-- a sound store is the outline of what it says, and what comes after
pub sound_is : (s : List ℕ) → sound_of s ≡ true → s ≡ due_in s ++ drop (length_in s) s
unfolding sound_of
sound_is s h = sym (take-append-drop (length_in s) s) ∙ ap (λ (l : List ℕ). l ++ drop (length_in s) s) (same_is (take (length_in s) s) (due_in s) h)

-- where the words of a table fit, its posts suit it
pub small_suits : (s : List ℕ) (e : Edition) → form_in s ≡ Stroke e → (e ≡ Second → (i : ℕ) → i < 5 * count_in s → get_or (drop 5 (words_in s)) i 0 < 2 ^ 32) → Suits (Stroke e) (posts_in s) (path_in s)
unfolding posts_in stroke_words count_place
small_suits s First f h = rw f (posts_none (count_in s) (drop 5 (words_in s)) ∙ ap no_posts (sym (path_count_in s)))
small_suits s Second f h = (posts_count_in s f ∙ sym (path_count_in s), rw f (posts_small (count_in s) (drop 5 (words_in s)) (h refl)))

pub sound_suits : (s : List ℕ) (e : Edition) → form_in s ≡ Stroke e → sound_of s ≡ true → Suits (Stroke e) (posts_in s) (path_in s)
unfolding due_in outline_bytes stroke_bytes stroke_words count_place
sound_suits s e f h = small_suits s e f small
  where
    due : List ℕ
    due = outline_words (form_in s) (grade_in s) (posts_in s) (path_in s)

    long : e ≡ Second → 5 + 5 * count_in s ≤ length due
    long q =
        let m = length (edges_for (form_in s) (grade_in s) (path_in s)) in
        let k : length_of (form_in s) (length (path_in s)) m ≡ length_of (Stroke Second) (length (path_in s)) m = ap (λ (o : Form). length_of o (length (path_in s)) m) (f ∙ ap Stroke q) in
        omega (arith, bytes-length due, outline_length (form_in s) (grade_in s) (posts_in s) (path_in s), k, path_count_in s)

    small : e ≡ Second → (i : ℕ) → i < 5 * count_in s → get_or (drop 5 (words_in s)) i 0 < 2 ^ 32
    small q i l = rw (get_or-drop 5 (words_in s) i 0) (subst (λ (x : List ℕ). get_or (words_in x) (5 + i) 0 < 2 ^ 32) (sym (sound_is s h)) (words_small due (drop (length_in s) s) (5 + i) (omega (arith, l, long q))))

-- those of vertices without point numbers suit edition 2
pub plain_suits : (vs : List Vertex) → Suits (Stroke Second) (no_posts (length vs)) vs
unfolding no_posts
plain_suits vs = (length-replicate (length vs) 0, zeros_fit (length vs))

-- posts suit any path of as many vertices
pub suits_other : (e : Edition) (ps : List ℕ) (vs us : List Vertex) → length us ≡ length vs → Suits (Stroke e) ps vs → Suits (Stroke e) ps us
suits_other First ps vs us k h = h ∙ ap no_posts (sym k)
suits_other Second ps vs us k h = (h.0 ∙ sym k, h.1)

pub one_outline : OneOutline
one_outline f e g h ps qs vs us p q o = (
  sym (form_back f g ps vs [] p) ∙ ap (λ s. form_in (s ++ [])) o ∙ form_back e h qs us [] q,
  sym (grade_back f g ps vs [] p) ∙ ap (λ s. grade_in (s ++ [])) o ∙ grade_back e h qs us [] q,
  sym (posts_again f g ps vs [] p) ∙ ap (λ s. posts_in (s ++ [])) o ∙ posts_again e h qs us [] q,
  sym (vertices_back f g ps vs [] p) ∙ ap (λ s. path_in (s ++ [])) o ∙ vertices_back e h qs us [] q,
)

-- ---- and what reading it replies: every row before fails

pub numbers_count : (vs : List Vertex) → length (path_numbers vs) ≡ 3 * length vs
unfolding path_numbers vertex_numbers spread
numbers_count [] = refl
numbers_count (v ∷ vs) = omega (arith, numbers_count vs)
