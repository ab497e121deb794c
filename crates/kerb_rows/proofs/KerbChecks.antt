-- The rows of a kerb, one law for each outcome of its tests; and what its edges come to. Assumes nothing.
use Rattle.std.specs.Prelude.{Result, Ok, Err}
use mathlib.Core.Path.{◌≡◌, refl, sym, ap, ◌∙◌}
use mathlib.Core.Bool.{true, false, not}
use mathlib.Core.List.{List, [], ◌∷◌, ◌++◌}
use Prim.Native.Nat.{ℕ, ◌/◌, ◌%◌, ◌≤◌, ◌<◌}
use native.Mathlib.Nat.{le_antisymm}
use native.Mathlib.Omega.{arith}
use borrow.Author.Tests.{eq-eqb, ne_eqb, lt-ltb, le-ltb}
use lib.IntN.{ℤ, pos}
use lib.ListN.{length}
use Rattle.contacts.specs.Limits.{first_outside}
use Rattle.contacts.proofs.Allowed.{outside_most}
use Rattle.kerb.specs.Kerbs.{kerb_edges}
use Rattle.kerb.specs.Styles.{style_of}
use Rattle.kerb.specs.declared.Style.{Style}
use Rattle.kerb_paths.specs.Points.{kerb_path}
use Rattle.kerb_paths.proofs.PointsAhead.{point_count}
use Rattle.paths.specs.Paths.{Within}
use Rattle.replies.specs.Replies.{Reply, Row, first_row, draw_grade_row, count_row, outside_row}
use Rattle.replies.specs.StyleRows.{style_fault, style_row}
use Rattle.replies.specs.Refusals.{refusal_of}
use Rattle.replies.specs.declared.Refusal.{Refusal}
use Rattle.replies.specs.declared.Refusal.TheVariants.{Uneven, TooMany, Grade, Outside, StyleWord}
use Rattle.replies.proofs.Rows.{NoneHold, first_skip, none_last, rows_append, grade_drawn, grade_retired, grade_above}
use Rattle.replies.proofs.StyleFaults.{faultless}
use Rattle.kerb_rows.specs.KerbRows.{pairs_row, kerb_rows, kerb_due, KerbFits, or_kerb, KerbSays}

-- a refusal is no pass
refused_not : (r : Refusal) (n : ℕ) → ◌≡◌ {A = Result ℕ Refusal} (Err r) (Ok n) → ⊥
refused_not r n e = let z : ◌≡◌ {A = ℕ} 0 1 = cc in omega arith

-- a row that holds, after rows of which none does
first_holds : (rows : List Row) (row : Row) (after : List Row) (last : Reply) → NoneHold rows → row.0 ≡ true → first_row (rows ++ (row ∷ after)) last ≡ row.1
unfolding first_row
first_holds rows row after last h e = first_skip rows (row ∷ after) last h ∙ rw (e, first_row)

-- ---- each row fails, by its test

module _ (l : List ℤ) (g r j c : ℕ) where
  even : length l % 2 ≡ 0 → (pairs_row l).0 ≡ false
  unfolding pairs_row
  even h = ap not (eq-eqb (length l % 2) 0 h)

  styled : style_fault r j c ≤ 0 → (style_row r j c).0 ≡ false
  unfolding style_row
  styled h = le-ltb 0 (style_fault r j c) h

  counted : length l / 2 ≤ 4096 → (count_row (length (kerb_path (pos r) l))).0 ≡ false
  unfolding count_row
  counted h = le-ltb 4096 (length (kerb_path (pos r) l)) (omega (arith, point_count (pos r) l, h))

  -- ---- the first that holds

  refused : (x : Refusal) → ((more : Reply) → first_row (kerb_rows l g r j c) more ≡ refusal_of x) → KerbSays l g r j c (Err x)
  unfolding or_kerb
  refused x h = record { says = h; fits = λ n e. absurd (refused_not x n e) }

  pub odd_count : (length l % 2 ≡ 0 → ⊥) → KerbSays l g r j c (Err (Uneven (length l)))
  unfolding kerb_rows pairs_row
  odd_count h = refused (Uneven (length l)) (λ more. first_holds [] _ _ more tt (ap not (ne_eqb (length l % 2) 0 h)))

  module _ (h₁ : length l % 2 ≡ 0) where
    pub grade_under : g < 2 → KerbSays l g r j c (Err (Grade g))
    unfolding kerb_rows draw_grade_row
    grade_under h = refused (Grade g) (λ more. first_holds (pairs_row l ∷ []) (draw_grade_row g) _ more (even h₁, tt) (grade_retired h))

    module _ (low : 2 ≤ g) where
      pub grade_over : 8 < g → KerbSays l g r j c (Err (Grade g))
      unfolding kerb_rows draw_grade_row
      grade_over h = refused (Grade g) (λ more. first_holds (pairs_row l ∷ []) (draw_grade_row g) _ more (even h₁, tt) (grade_above low h))

      module _ (high : g ≤ 8) where
        pub style_out : {i : ℕ} → i ≡ style_fault r j c → 0 < i → KerbSays l g r j c (Err (StyleWord i))
        unfolding kerb_rows style_row
        style_out {i} e h = refused (StyleWord i)
            (λ more. first_holds (pairs_row l ∷ draw_grade_row g ∷ []) (style_row r j c) _ more (even h₁, (grade_drawn low high, tt)) (lt-ltb 0 (style_fault r j c) (omega (arith, e, h))) ∙ ap (λ (n : ℕ). (11, n)) (sym e))

        module _ (hs : style_fault r j c ≤ 0) where
          pub points_over : 4096 < length l / 2 → KerbSays l g r j c (Err (TooMany (length l / 2)))
          unfolding kerb_rows count_row
          points_over h = refused (TooMany (length l / 2))
              (λ more. first_holds (pairs_row l ∷ draw_grade_row g ∷ style_row r j c ∷ []) (count_row (length (kerb_path (pos r) l))) _ more (even h₁, (grade_drawn low high, (styled hs, tt))) (lt-ltb 4096 (length (kerb_path (pos r) l)) (omega (arith, point_count (pos r) l, h))) ∙ ap (λ (n : ℕ). (2, n)) (point_count (pos r) l))

          module _ (few : length l / 2 ≤ 4096) where
            pub point_outside : {i : ℕ} → i ≡ first_outside (kerb_path (pos r) l) → i < length l / 2 → KerbSays l g r j c (Err (Outside i))
            unfolding kerb_rows outside_row
            point_outside {i} e h =
                let vs = kerb_path (pos r) l in
                refused (Outside i)
                (λ more. first_holds (pairs_row l ∷ draw_grade_row g ∷ style_row r j c ∷ count_row (length vs) ∷ []) (outside_row vs) [] more (even h₁, (grade_drawn low high, (styled hs, (counted few, tt)))) (lt-ltb (first_outside vs) (length vs) (omega (arith, e, point_count (pos r) l, h))) ∙ ap (λ (n : ℕ). (4, n)) (sym e))

            pub kerb_passes : {i : ℕ} → i ≡ first_outside (kerb_path (pos r) l) → length l / 2 ≤ i → KerbSays l g r j c (Ok (length l / 2))
            unfolding kerb_rows outside_row or_kerb
            kerb_passes {i} e h =
                let vs = kerb_path (pos r) l in
                let k : length vs ≤ first_outside vs = omega (arith, e, point_count (pos r) l, h) in
                let says : (more : Reply) → first_row (kerb_rows l g r j c) more ≡ more =
                λ more. none_last (kerb_rows l g r j c) more (even h₁, (grade_drawn low high, (styled hs, (counted few, (le-ltb (first_outside vs) (length vs) k, tt))))) in
                let ranges = faultless r j c (let z : style_fault r j c ≡ 0 = omega (arith, hs) in z) in
                record {
                  says = says;
                  fits = λ n f. let m : length l / 2 ≡ n = cc in record {
                    count = sym m ∙ sym (point_count (pos r) l);
                    within = record { low = omega (arith, low); high = high; count = omega (arith, point_count (pos r) l, few); inside = le_antisymm (outside_most vs) k };
                    radius = ranges.0;
                    join = ranges.1;
                    closed = ranges.2;
                    passed = says;
                  };
                }

-- pairs, a grade from 2 on, a style and points within the limits pass
pub within_passes : (l : List ℤ) {g r j c : ℕ} → length l % 2 ≡ 0 → 2 ≤ g → style_fault r j c ≡ 0 → Within g (kerb_path (pos r) l) → KerbFits l g r j c (length l / 2)
within_passes l {g} {r} {j} {c} h low s w =
    let e : first_outside (kerb_path (pos r) l) ≡ length l / 2 = w.inside ∙ point_count (pos r) l in
    (kerb_passes l g r j c h low w.high (omega (arith, s)) (omega (arith, point_count (pos r) l, w.count)) {i = first_outside (kerb_path (pos r) l)} refl (omega (arith, e))).fits _ refl

-- whatever further rows say, a refusal of the kerb's rows is the reply
pub kerb_refuses : (l : List ℤ) {g r j c : ℕ} {x : Refusal} (more : List Row) (last : Reply) → KerbSays l g r j c (Err x) → refusal_of x ≡ first_row (kerb_rows l g r j c ++ more) last
unfolding or_kerb
kerb_refuses l {g} {r} {j} {c} more last s = sym (rows_append (kerb_rows l g r j c) more last ∙ s.says (first_row more last))

-- ---- the points with the style's radius: y is the style as the code has it

module _ (l : List ℤ) (r j c : ℕ) {y : Style} (e : y ≡ style_of r j c) where
  pub path_told : kerb_path y.radius l ≡ kerb_path (pos r) l
  unfolding style_of
  path_told = rw e

  pub due_told : (g : ℕ) → kerb_edges g y (kerb_path y.radius l) ≡ kerb_due l g r j c
  unfolding kerb_due style_of
  due_told g = rw e

  pub outside_told : {i : ℕ} → i ≡ first_outside (kerb_path y.radius l) → i ≡ first_outside (kerb_path (pos r) l)
  outside_told f = f ∙ ap first_outside path_told

  pub count_told : {n : ℕ} → n ≡ length (kerb_path (pos r) l) → n ≡ length (kerb_path y.radius l)
  count_told f = f ∙ ap length (sym path_told)

  pub all_inside : first_outside (kerb_path (pos r) l) ≡ length (kerb_path (pos r) l) → first_outside (kerb_path y.radius l) ≡ length (kerb_path y.radius l)
  all_inside f = ap first_outside path_told ∙ f ∙ ap length (sym path_told)
