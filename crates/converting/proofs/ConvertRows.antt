-- What convert makes of a store: a refusal of its rows, the row of the grade named, and of a store that passed both its outline drawn anew. Assumes nothing.
use Rattle.std.specs.Prelude.{Result, Err}
use mathlib.Core.Logic.{◌⊎◌, inl, inr}
use mathlib.Core.Path.{◌≡◌, refl, sym, ap, ◌∙◌}
use mathlib.Core.Bool.{true}
use mathlib.Core.List.{List, [], ◌∷◌, ◌++◌}
use Prim.Native.Nat.{ℕ, ◌-◌, ◌*◌, ◌≤◌, ◌<◌}
use native.Mathlib.Omega.{arith}
use lib.IntN.{ℤ}
use lib.ListN.{length, take, replicate, length-take}
use Rattle.runs.specs.Runs.{spread}
use Rattle.contacts.specs.declared.Vertex.{Vertex}
use Rattle.paths.specs.Paths.{path_of, path_numbers, Within}
use Rattle.kerb.specs.declared.Style.{Style}
use Rattle.kerb_paths.specs.Points.{kerb_path}
use Rattle.outline.specs.Layout.{length_of}
use Rattle.outline.specs.Stores.{form_in, length_in, path_in, posts_in}
use Rattle.outline.specs.Theorems.{AllRadius, Suits}
use Rattle.outline.specs.declared.Edition.{Edition}
use Rattle.outline.specs.declared.Form.{Form}
use Rattle.outline.specs.declared.Form.TheVariants.{Stroke, Kerb}
use Rattle.replies.specs.Replies.{draw_grade_row}
use Rattle.replies.specs.Refusals.{refusal_of, reply_of}
use Rattle.replies.specs.declared.Refusal.{Refusal}
use Rattle.replies.specs.declared.Refusal.TheVariants.{Grade}
use Rattle.replies.proofs.Rows.{first_holds, first_skip, grade_drawn, grade_retired, grade_above, refused_written}
use Rattle.heading.specs.Shows.{point_numbers}
use Rattle.heading.specs.declared.Header.{Header}
use Rattle.heading.proofs.Shown.{path_back}
use Rattle.checking.specs.StoreChecks.{StoreSays}
use Rattle.checking.proofs.StoreReads.{store_refuses, store_passes, header_count, header_length, kerb_radius}
use Rattle.checking.proofs.StorePassed.{kerb_suits}
use Rattle.checking.specs.Known.{Passed}
use Rattle.converting.specs.Converting.{converted_of, convert_reply, convert_out, ConvertsOutline, Redraws}

-- ---- a path within the limits at one grade is so at another

pub within_at : {g k : ℕ} {vs : List Vertex} → Within g vs → 2 ≤ k → k ≤ 8 → Within k vs
within_at h low high = record { low = omega (arith, low); high = high; count = h.count; inside = h.inside }

-- the points of a kerb's vertices are its vertices
pub points_again : (r : ℤ) (vs : List Vertex) → AllRadius r vs → kerb_path r (spread point_numbers vs) ≡ vs
unfolding kerb_path point_numbers spread
points_again r [] h = refl
points_again r (v ∷ vs) h = λ i. record { x = v.x; y = v.y; radius = sym h.0 i } ∷ points_again r vs h.1 i

pub pairs_count : (vs : List Vertex) → length (spread point_numbers vs) ≡ 2 * length vs
unfolding spread point_numbers
pairs_count [] = refl
pairs_count (v ∷ vs) = omega (arith, pairs_count vs)

-- ---- the rows

pub convert_refused : {s : List ℕ} {p : List ℤ} {c : Result Header Refusal} {r : Refusal} (g : ℕ) → c ≡ Err r → StoreSays s p c → ConvertsOutline s g (Err r) s
unfolding convert_reply convert_out
convert_refused {s} {r = r} g e a =
    let f : refusal_of r ≡ convert_reply s g = store_refuses _ _ a e in
    record { reply = f; store = refused_written r (converted_of s g ++ replicate (length_in s - length (converted_of s g)) 0) s f }

module _ {s : List ℕ} {p : List ℤ} {h : Header} (a : Passed s p h) where
  not_drawn : {g : ℕ} → (draw_grade_row g).0 ≡ true → ConvertsOutline s g (Err (Grade g)) s
  unfolding convert_reply convert_out draw_grade_row
  not_drawn {g} e =
      let f : (3, g) ≡ convert_reply s g = sym (store_passes _ _ a.sound ∙ first_holds (draw_grade_row g) _ _ e) in
      record { reply = f; store = refused_written (Grade g) (converted_of s g ++ replicate (length_in s - length (converted_of s g)) 0) s f }

  pub convert_undrawn : {g : ℕ} → (g < 2) ⊎ ((2 ≤ g) × (8 < g)) → ConvertsOutline s g (Err (Grade g)) s
  convert_undrawn (inl l) = not_drawn (grade_retired l)
  convert_undrawn (inr l) = not_drawn (grade_above l.0 l.1)

  pub convert_done : {g old : ℕ} (f : Form) (ps : List ℕ) (vs : List Vertex) {r : Result ℕ Refusal} {s₁ : List ℕ} → 2 ≤ g → g ≤ 8 → f ≡ form_in s → ps ≡ posts_in s → vs ≡ path_in s → old ≡ length_in s
      → Redraws s f g ps vs old r s₁ → ConvertsOutline s g r s₁
  unfolding converted_of convert_reply convert_out
  convert_done {g} f ps vs {r} {s₁} low high ef eq ev eo w =
      let w' : Redraws s (form_in s) g (posts_in s) (path_in s) (length_in s) r s₁ = rw (ef, eq, ev, eo) at w in
      let e : reply_of r ≡ convert_reply s g = w'.reply ∙ sym (store_passes _ _ a.sound ∙ first_skip (draw_grade_row g ∷ []) _ _ (grade_drawn low high, tt)) in
      record { reply = e; store = rw e at w'.bytes }

  -- where the old outline ends
  old_end : {f : Form} {old : ℕ} → h.form ≡ f → old ≡ length_of f h.n h.m → old ≡ length_in s
  old_end e o = o ∙ ap (λ (x : Form). length_of x h.n h.m) (sym e) ∙ header_length a.sound.head

  -- ---- a stroke: its path as the code has it, e numbers of p

  module _ {d : Edition} (f : h.form ≡ Stroke d) {e : ℕ} (z : e ≡ 3 * h.n) where
    stroke_path : path_of (take e p) ≡ path_in s
    unfolding path_numbers
    stroke_path =
        let q : take (3 * h.n) p ≡ path_numbers (path_in s) = rw f at a.path in
        ap (λ (k : ℕ). path_of (take k p)) z ∙ ap path_of q ∙ path_back (path_in s)

    pub stroke_counted : h.n ≡ length (path_of (take e p))
    stroke_counted = header_count a.sound.head ∙ ap length (sym stroke_path)

    pub stroke_within : {g : ℕ} → 2 ≤ g → g ≤ 8 → Within g (path_of (take e p))
    stroke_within low high = rw stroke_path (within_at a.sound.within low high)

    pub stroke_converts : {g old : ℕ} (qs : List ℕ) {r : Result ℕ Refusal} {s₁ : List ℕ} → 2 ≤ g → g ≤ 8 → qs ≡ posts_in s → old ≡ length_of (Stroke d) h.n h.m
        → Redraws s (Stroke d) g qs (path_of (take e p)) old r s₁ → ConvertsOutline s g r s₁
    stroke_converts qs low high eq eo w = convert_done (Stroke d) qs (path_of (take e p)) low high (sym f ∙ a.sound.head.form) eq stroke_path (old_end f eo) w

  -- ---- a kerb, the same way

  module _ {y : Style} (f : h.form ≡ Kerb y) where
    suits : Suits (Kerb y) (posts_in s) (path_in s)
    suits = kerb_suits s y (sym a.sound.head.form ∙ f) (kerb_radius a.sound.head f)

    kerb_numbers : take (2 * h.n) p ≡ spread point_numbers (path_in s)
    kerb_numbers = rw f at a.path

    -- what the code's sums and parts need
    pub kerb_few : (h.n ≤ 4096) × (2 * h.n ≤ length p) × (length_of (Kerb y) h.n h.m ≤ length s)
    kerb_few = (
      omega (arith, header_count a.sound.head, a.sound.within.count),
      omega (arith, ap length kerb_numbers, pairs_count (path_in s), header_count a.sound.head, length-take (2 * h.n) p),
      omega (arith, old_end {old = length_of (Kerb y) h.n h.m} f refl, a.sound.head.headed.long),
    )

    module _ {e : ℕ} (z : e ≡ 2 * h.n) where
      kerb_points : kerb_path y.radius (take e p) ≡ path_in s
      kerb_points = ap (λ (k : ℕ). kerb_path y.radius (take k p)) z ∙ ap (kerb_path y.radius) kerb_numbers ∙ points_again y.radius (path_in s) suits.1

      pub kerb_counted : h.n ≡ length (kerb_path y.radius (take e p))
      kerb_counted = header_count a.sound.head ∙ ap length (sym kerb_points)

      pub kerb_within : {g : ℕ} → 2 ≤ g → g ≤ 8 → Within g (kerb_path y.radius (take e p))
      kerb_within low high = rw kerb_points (within_at a.sound.within low high)

      pub kerb_converts : {g old : ℕ} {r : Result ℕ Refusal} {s₁ : List ℕ} → 2 ≤ g → g ≤ 8 → old ≡ length_of (Kerb y) h.n h.m
          → Redraws s (Kerb y) g [] (kerb_path y.radius (take e p)) old r s₁ → ConvertsOutline s g r s₁
      kerb_converts low high eo w = convert_done (Kerb y) [] (kerb_path y.radius (take e p)) low high (sym f ∙ a.sound.head.form) (sym suits.2) kerb_points (old_end f eo) w
