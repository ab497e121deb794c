-- An outline's words part by part: numbers, a table entry by entry, bodies edge by edge. Assumes nothing.
use mathlib.Core.Path.{◌≡◌, refl, sym, ap, ◌∙◌}
use mathlib.Core.List.{List, [], ◌∷◌, ◌++◌}
use Prim.Native.Nat.{ℕ, suc, ◌+◌, ◌*◌, ◌^◌, ◌≤◌, ◌<◌}
use native.Mathlib.Omega.{arith}
use native.Mathlib.Nat.{add-zero}
use native.Mathlib.Numerals.{add-one}
use lib.IntN.{ℤ}
use lib.ListN.{length, get_or, drop, drop_of_length-le}
use lib.Seq.{get_or-drop, drop-drop, drop-cons}
use mir.Syntax.{w64}
use Rattle.whole.specs.Sizes.{Size}
use Rattle.whole.proofs.Sizes.{size_fits}
use Rattle.runs.specs.Runs.{spread, Runs, Room}
use Rattle.runs.proofs.Laws.{spread-append, runs_none, runs_as, runs_then}
use Rattle.plane.proofs.Products.{bits, back, size_back}
use Rattle.plane.specs.declared.Vector.{Vector}
use Rattle.turning.specs.Edges.{edge_numbers}
use Rattle.turning.specs.Bounds.{Radius}
use Rattle.turning.specs.declared.Edge.{Edge}
use Rattle.contacts.specs.Bounds.{Inside}
use Rattle.variable_stroke.specs.Chains.{emitted_of, next_of, start_of, close_of}
use Rattle.paths.specs.Paths.{none, bodies_from, bodies_at, bodies_of, joined, edges_of}
use Rattle.contacts.specs.declared.Vertex.{Vertex}
use Rattle.variable_stroke.specs.declared.Walk.{Walk}
use Rattle.paths.proofs.PathWalk.{edges-none, edges-start, edges_step, edges_end}
use Rattle.outline.specs.Layout.{edition_word, kind_word, stroke_bytes, stroke_words, count_place, count_words, header_bytes, entry_bytes, edge_bytes}
use Rattle.outline.specs.declared.Edition.{Edition}
use Rattle.outline.specs.declared.Edition.TheVariants.{First, Second}
use Rattle.outline.specs.declared.Form.{Form}
use Rattle.outline.specs.declared.Form.TheVariants.{Stroke, Kerb}
use Rattle.kerb.specs.declared.Style.{Style}
use Rattle.words.specs.Words.{word_of, words_of, four_bytes, bytes_of}
use Rattle.outline.specs.Outlines.{join_word, closed_word, style_words, header_of, post_words, entry_of, table_of, point_words, body_words, parts_words, table_for, outline_words, outline_bytes}
use Rattle.outline.specs.Parts.{table_from, words_from}
use Rattle.outline.proofs.ReadBack.{header_length, table_length, numbers_length}
use Rattle.words.proofs.NumberRuns.{words-append, four_each}
use Rattle.outline.proofs.FormLengths.{entries_four}

-- ---- the header and an entry, word by word

pub word_end : {S : Type 0} {f : S → ℕ → ℕ → S} {s s' : S} {a b w : ℕ} → Runs f four_bytes s a (w ∷ []) s' b → b ≡ a + 4
unfolding spread four_bytes
word_end p = p.pos

-- the words that the header of a form has after the edge count come last
pub header_run : {S : Type 0} {f : S → ℕ → ℕ → S} {s₀ s₁ s₂ s₃ s₄ s₅ s₆ : S} {at a b c d e z g n m : ℕ} (o : Form)
    → Runs f four_bytes s₀ at (edition_word o ∷ []) s₁ a → Runs f four_bytes s₁ a (kind_word o ∷ []) s₂ b → Runs f four_bytes s₂ b (g ∷ []) s₃ c → Runs f four_bytes s₃ c (n ∷ []) s₄ d → Runs f four_bytes s₄ d (m ∷ []) s₅ e
    → Runs f four_bytes s₅ e (style_words o) s₆ z → Runs f four_bytes s₀ at (header_of o g n m) s₆ z
unfolding header_of
header_run o p q r s t u = runs_then p (runs_then q (runs_then r (runs_then s (runs_then t u))))

-- of a stroke there are none
pub stroke_style : {S : Type 0} {f : S → ℕ → ℕ → S} {s : S} {a : ℕ} (e : Edition) → Runs f four_bytes s a (style_words (Stroke e)) s a
unfolding style_words
stroke_style e = runs_none

-- an entry has as many bytes as its edition says
pub entry_bytes_lem : (e : Edition) (v : Vertex) (post count : ℕ) → length (spread four_bytes (entry_of e v post count)) ≡ stroke_bytes e
unfolding entry_of post_words spread four_bytes stroke_bytes stroke_words count_place
entry_bytes_lem First v post count = refl
entry_bytes_lem Second v post count = refl

pub post_bytes : (e : Edition) (post : ℕ) → length (spread four_bytes (post_words e post)) + 16 ≡ stroke_bytes e
unfolding post_words spread four_bytes stroke_bytes stroke_words count_place
post_bytes First post = refl
post_bytes Second post = refl

pub entry_room : {at : ℕ} (e : Edition) (v : Vertex) (post count : ℕ) → Room four_bytes at (entry_of e v post count) → at + stroke_bytes e < 2 ^ 64
entry_room e v post count h = omega (arith, h.fits, entry_bytes_lem e v post count)

pub room_entry : {at : ℕ} (e : Edition) (v : Vertex) (post count : ℕ) → at + stroke_bytes e < 2 ^ 64 → Room four_bytes at (entry_of e v post count)
room_entry e v post count h = record { fits = omega (arith, h, entry_bytes_lem e v post count) }

-- a coordinate within the limits, as the code hands it on
pub coordinate_fits : {z : ℤ} → Size (2 ^ 28) z → Size (2 ^ 31) (bits z)
coordinate_fits h = size_back (size_fits (2 ^ 28) w64 _ h tt) (record { size = omega (arith, h.size) })

pub coordinate_word : {z : ℤ} {w : ℕ} → Size (2 ^ 28) z → w ≡ word_of (bits z) → w ≡ word_of z
coordinate_word h e = e ∙ ap word_of (back (size_fits (2 ^ 28) w64 _ h tt))

pub radius_size : {z : ℤ} → Radius z → Size (2 ^ 28) z
radius_size h = record { size = h.high }

-- x, y and r are what the code has for the first three words; then comes what the edition has for the post
pub entry_run : {S : Type 0} {f : S → ℕ → ℕ → S} {s₀ s₁ s₂ s₃ s₄ s₅ : S} {at a b c d z x y r : ℕ} (e : Edition) (v : Vertex) (post count : ℕ) → Inside v
    → x ≡ word_of (bits v.x) → y ≡ word_of (bits v.y) → r ≡ word_of (bits v.radius)
    → Runs f four_bytes s₀ at (x ∷ []) s₁ a → Runs f four_bytes s₁ a (y ∷ []) s₂ b → Runs f four_bytes s₂ b (r ∷ []) s₃ c → Runs f four_bytes s₃ c (post_words e post) s₄ d → Runs f four_bytes s₄ d (count ∷ []) s₅ z
    → Runs f four_bytes s₀ at (entry_of e v post count) s₅ z
unfolding entry_of
entry_run e v post count h ex ey er p q s t u =
    runs_as (rw (← coordinate_word h.x ex, ← coordinate_word h.y ey, ← coordinate_word (radius_size h.radius) er)) (runs_then p (runs_then q (runs_then s (runs_then t u))))

-- the post by its edition
pub post_first : {S : Type 0} {f : S → ℕ → ℕ → S} {s : S} {a : ℕ} {e : Edition} (post : ℕ) → e ≡ First → Runs f four_bytes s a (post_words e post) s a
unfolding post_words
post_first post h = rw h runs_none

pub post_second : {S : Type 0} {f : S → ℕ → ℕ → S} {s s' : S} {a b : ℕ} {e : Edition} {post : ℕ} → e ≡ Second → Runs f four_bytes s a (post ∷ []) s' b → Runs f four_bytes s a (post_words e post) s' b
unfolding post_words
post_second h p = rw h p

-- a style's three words, and a point's two
pub style_run : {S : Type 0} {f : S → ℕ → ℕ → S} {s₀ s₁ s₂ s₃ : S} {at a b c r j k : ℕ} (y : Style) → Radius y.radius
    → r ≡ word_of (bits y.radius) → j ≡ join_word y.join → k ≡ closed_word y.closed
    → Runs f four_bytes s₀ at (r ∷ []) s₁ a → Runs f four_bytes s₁ a (j ∷ []) s₂ b → Runs f four_bytes s₂ b (k ∷ []) s₃ c → Runs f four_bytes s₀ at (style_words (Kerb y)) s₃ c
unfolding style_words
style_run y h er ej ek p q t =
    let e = coordinate_word (radius_size h) er in
    runs_as (λ i. sym e i ∷ sym ej i ∷ sym ek i ∷ []) (runs_then p (runs_then q t))

pub point_run : {S : Type 0} {f : S → ℕ → ℕ → S} {s₀ s₁ s₂ : S} {at a b x y : ℕ} (v : Vertex) → Inside v → x ≡ word_of (bits v.x) → y ≡ word_of (bits v.y)
    → Runs f four_bytes s₀ at (x ∷ []) s₁ a → Runs f four_bytes s₁ a (y ∷ []) s₂ b → Runs f four_bytes s₀ at (point_words v) s₂ b
unfolding point_words
point_run v h ex ey p q =
    let e = coordinate_word h.x ex in
    let d = coordinate_word h.y ey in
    runs_as (λ i. sym e i ∷ sym d i ∷ []) (runs_then p q)

-- ---- bodies, edge by edge

pub body-none : body_words [] ≡ []
unfolding body_words spread words_of
body-none = refl

pub body-append : (es fs : List Edge) → body_words (es ++ fs) ≡ body_words es ++ body_words fs
unfolding body_words
body-append es fs = ap words_of (spread-append edge_numbers es fs) ∙ words-append (spread edge_numbers es) (spread edge_numbers fs)

module _ (t : Vector) (vs : List Vertex) where
  pub bodies_none : length vs ≡ 0 → body_words (joined (bodies_at t vs)) ≡ []
  bodies_none h = ap body_words (edges-none t vs h) ∙ body-none

  pub bodies_start : {a : Vertex} {w : Walk} → 0 < length vs → a ≡ get_or vs 0 none → w ≡ start_of a → body_words (joined (bodies_at t vs)) ≡ words_from t w (drop 1 vs)
  unfolding words_from
  bodies_start h e f = ap body_words (edges-start t vs h e f)

  pub bodies_step : (k : ℕ) (w : Walk) {b : Vertex} {u : Walk} → k < length vs → b ≡ get_or vs k none → u ≡ next_of w b
      → words_from t w (drop k vs) ≡ body_words (emitted_of t w b) ++ words_from t u (drop (k + 1) vs)
  unfolding words_from
  bodies_step k w {b} {u} h e f = ap body_words (edges_step t vs k w h e f) ∙ body-append (emitted_of t w b) (joined (bodies_from t u (drop (k + 1) vs)))

  pub bodies_end : (k : ℕ) (w : Walk) → length vs ≤ k → words_from t w (drop k vs) ≡ body_words (close_of t w)
  unfolding words_from
  bodies_end k w h = ap body_words (edges_end t vs k w h)

-- ---- the table, entry by entry

pub table_none : (e : Edition) (t : Vector) (ps : List ℕ) (vs : List Vertex) → length vs ≡ 0 → table_of e ps vs (bodies_at t vs) ≡ 0 ∷ []
unfolding table_of bodies_at
table_none e t ps [] h = refl
table_none e t ps (v ∷ vs) h = absurd (omega arith)

pub table_start : (e : Edition) (t : Vector) (ps : List ℕ) (vs : List Vertex) {a : Vertex} {w : Walk} {post : ℕ} → 0 < length vs → a ≡ get_or vs 0 none → post ≡ get_or ps 0 0 → w ≡ start_of a
    → table_of e ps vs (bodies_at t vs) ≡ entry_of e a post 0 ++ table_from e t w (drop 1 ps) (drop 1 vs)
unfolding table_of bodies_at table_from
table_start e t ps [] h i j f = absurd (omega arith)
table_start e t ps (v ∷ vs) h i j f = rw (f, i, j)

module _ (e : Edition) (t : Vector) (ps : List ℕ) (vs : List Vertex) where
  pub table_step : (k : ℕ) (w : Walk) {b : Vertex} {u : Walk} {post : ℕ} → k < length vs → b ≡ get_or vs k none → post ≡ get_or ps k 0 → u ≡ next_of w b
      → table_from e t w (drop k ps) (drop k vs) ≡ entry_of e b post (length (emitted_of t w b)) ++ table_from e t u (drop (k + 1) ps) (drop (k + 1) vs)
  unfolding table_from table_of bodies_from
  table_step k w h i j f =
      let q : get_or (drop k ps) 0 0 ≡ get_or ps k 0 = get_or-drop k ps 0 0 ∙ ap (λ (n : ℕ). get_or ps n 0) (add-zero k) in
      let d : drop 1 (drop k ps) ≡ drop (suc k) ps = drop-drop 1 k ps ∙ ap (λ (n : ℕ). drop n ps) (add-one k) in
      rw (f, add-one, i, j, drop-cons vs k none h, d, q)

  pub table_end : (k : ℕ) (w : Walk) → length vs ≤ k → table_from e t w (drop k ps) (drop k vs) ≡ length (close_of t w) ∷ []
  unfolding table_from table_of bodies_from
  table_end k w h = rw (drop_of_length-le vs h)

-- posts that are the same one by one give the same table
same_posts : (e : Edition) (vs : List Vertex) (bs : List (List Edge)) (ps qs : List ℕ) → ((k : ℕ) → get_or ps k 0 ≡ get_or qs k 0) → table_of e ps vs bs ≡ table_of e qs vs bs
unfolding table_of
same_posts e vs [] ps qs h = refl
same_posts e [] (b ∷ bs) ps qs h = refl
same_posts e (v ∷ vs) (b ∷ bs) ps qs h =
    let r = same_posts e vs bs (drop 1 ps) (drop 1 qs) (λ k. get_or-drop 1 ps k 0 ∙ h (1 + k) ∙ sym (get_or-drop 1 qs k 0)) in
    λ i. entry_of e v (h 0 i) (length b) ++ r i

pub same_outline : (e : Edition) (g : ℕ) (vs : List Vertex) (ps qs : List ℕ) → ((k : ℕ) → get_or ps k 0 ≡ get_or qs k 0) → outline_bytes (Stroke e) g ps vs ≡ outline_bytes (Stroke e) g qs vs
unfolding outline_bytes outline_words parts_words
same_outline e g vs ps qs h =
    ap (λ (table : List ℕ). bytes_of (header_of (Stroke e) g (length vs) (length (edges_of g vs)) ++ (table ++ body_words (edges_of g vs)))) (same_posts e vs (bodies_of g vs) ps qs h)

-- ---- how long the parts are, in bytes

pub header_bytes_lem : (f : Form) (g n m : ℕ) → length (spread four_bytes (header_of f g n m)) ≡ header_bytes f
header_bytes_lem f g n m = omega (arith, four_each (header_of f g n m), header_length f g n m)

pub table_bytes_lem : (f : Form) (g : ℕ) (ps : List ℕ) (vs : List Vertex) → length (spread four_bytes (table_for f g ps vs)) ≡ entry_bytes f * length vs + 4 * count_words f
table_bytes_lem (Stroke e) g ps vs = omega (arith, four_each (table_for (Stroke e) g ps vs), table_length (Stroke e) g ps vs, entries_four e (length vs))
table_bytes_lem (Kerb y) g ps vs = omega (arith, four_each (table_for (Kerb y) g ps vs), table_length (Kerb y) g ps vs)

pub bodies_bytes : (es : List Edge) → length (spread four_bytes (body_words es)) ≡ edge_bytes * length es
bodies_bytes es = omega (arith, four_each (body_words es), numbers_length es)
