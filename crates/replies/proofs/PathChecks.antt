-- The rows of a path, one law for each outcome of its tests; and what a walk over a path that passed comes to. Assumes nothing.
use Rattle.std.specs.Prelude.{Result, Ok, Err}
use mathlib.Core.Path.{◌≡◌, refl, sym, ap, ◌∙◌}
use mathlib.Core.List.{List, ◌++◌}
use Prim.Native.Nat.{ℕ, ◌*◌, ◌/◌, ◌%◌, ◌≤◌, ◌<◌}
use native.Mathlib.Nat.{le_antisymm}
use native.Mathlib.Omega.{arith}
use lib.IntN.{ℤ}
use lib.ListN.{length}
use borrow.Author.Tests.{eq-eqb, ne_eqb, lt-ltb, le-ltb}
use Rattle.runs.specs.Runs.{spread, Runs, Room, put}
use Rattle.plane.specs.Directions.{step_of}
use Rattle.plane.specs.declared.Vector.{Vector}
use Rattle.turning.specs.Edges.{edge_numbers}
use Rattle.turning.proofs.Most.{edges_four}
use Rattle.turning.specs.declared.Edge.{Edge}
use Rattle.contacts.specs.Limits.{first_outside}
use Rattle.paths.specs.Paths.{path_of, bodies_at, bodies_of, joined, edges_of, Within}
use Rattle.paths.proofs.Most.{edges_most}
use Rattle.paths.proofs.PathWalk.{path_count}
use Rattle.contacts.specs.declared.Vertex.{Vertex}
use Rattle.replies.specs.Replies.{Reply, Row, first_row, triples_row, draw_grade_row, count_row, outside_row, path_rows}
use Rattle.replies.specs.Refusals.{refusal_of}
use Rattle.replies.specs.Checks.{Fits, or_path, PathSays}
use Rattle.replies.proofs.Rows.{rows_append}
use Rattle.contacts.proofs.Allowed.{outside_most}
use Rattle.replies.specs.declared.Refusal.{Refusal}
use Rattle.replies.specs.declared.Refusal.TheVariants.{Uneven, TooMany, Grade, Outside}

-- ---- the rows

-- a refusal is no pass
refused_not : (r : Refusal) (n : ℕ) → ◌≡◌ {A = Result ℕ Refusal} (Err r) (Ok n) → ⊥
refused_not r n e = let z : ◌≡◌ {A = ℕ} 0 1 = cc in omega arith

module _ (path : List ℤ) (g : ℕ) where
  refused : (r : Refusal) → ((more : Reply) → first_row (path_rows path g) more ≡ refusal_of r) → PathSays path g (Err r)
  unfolding or_path
  refused r h = record { says = h; fits = λ n e. absurd (refused_not r n e) }

  pub not_triples : (length path % 3 ≡ 0 → ⊥) → PathSays path g (Err (Uneven (length path)))
  unfolding path_rows triples_row first_row
  not_triples h = refused (Uneven (length path)) (λ more. rw (ne_eqb (length path % 3) 0 h, first_row))

  module _ (h₁ : length path % 3 ≡ 0) where
    pub grade_low : g < 2 → PathSays path g (Err (Grade g))
    unfolding path_rows triples_row draw_grade_row first_row
    grade_low h = refused (Grade g) (λ more. rw (eq-eqb (length path % 3) 0 h₁, first_row, lt-ltb g 2 h, first_row))

    module _ (low : 2 ≤ g) where
      pub grade_high : 8 < g → PathSays path g (Err (Grade g))
      unfolding path_rows triples_row draw_grade_row first_row
      grade_high h = refused (Grade g) (λ more. rw (eq-eqb (length path % 3) 0 h₁, first_row, le-ltb g 2 low, lt-ltb 8 g h, first_row))

      module _ (high : g ≤ 8) where
        pub too_many : 4096 < length path / 3 → PathSays path g (Err (TooMany (length path / 3)))
        unfolding path_rows triples_row draw_grade_row count_row first_row
        too_many h = refused (TooMany (length path / 3))
            (λ more. rw (eq-eqb (length path % 3) 0 h₁, first_row, le-ltb g 2 low, le-ltb 8 g high, first_row, path_count path, lt-ltb 4096 (length path / 3) h, first_row) (ap (λ (n : ℕ). (2, n)) (path_count path)))

        module _ (few : length path / 3 ≤ 4096) where
          count : length (path_of path) ≤ 4096
          count = omega (arith, path_count path)

          pub outside : {i : ℕ} → i ≡ first_outside (path_of path) → i < length path / 3 → PathSays path g (Err (Outside i))
          unfolding path_rows triples_row draw_grade_row count_row outside_row first_row
          outside {i} e h =
              let k : first_outside (path_of path) < length (path_of path) = omega (arith, path_count path) in
              refused (Outside i)
              (λ more. rw (e, eq-eqb (length path % 3) 0 h₁, first_row, le-ltb g 2 low, le-ltb 8 g high, first_row, le-ltb 4096 (length (path_of path)) count, first_row, lt-ltb (first_outside (path_of path)) (length (path_of path)) k, first_row))

          pub passes : {i : ℕ} → i ≡ first_outside (path_of path) → length path / 3 ≤ i → PathSays path g (Ok (length path / 3))
          unfolding path_rows triples_row draw_grade_row count_row outside_row first_row or_path
          passes {i} e h =
              let k : length (path_of path) ≤ first_outside (path_of path) = omega (arith, path_count path) in
              let says : (more : Reply) → first_row (path_rows path g) more ≡ more =
              λ more. rw (eq-eqb (length path % 3) 0 h₁, first_row, le-ltb g 2 low, le-ltb 8 g high, first_row, le-ltb 4096 (length (path_of path)) count, first_row, le-ltb (first_outside (path_of path)) (length (path_of path)) k, first_row) in
              record {
                says = says;
                fits = λ n f. record {
                  count = let c : length path / 3 ≡ n = cc in sym c ∙ sym (path_count path);
                  within = record { low = omega (arith, low); high = high; count = count; inside = le_antisymm (outside_most (path_of path)) k };
                  passed = says;
                };
              }

-- numbers lent as triples whose path is within the limits pass, from grade 2 on
pub within_fits : (path : List ℤ) {g : ℕ} → length path % 3 ≡ 0 → 2 ≤ g → Within g (path_of path) → Fits path g (length path / 3)
within_fits path {g} h low w =
    let e : first_outside (path_of path) ≡ length path / 3 = w.inside ∙ path_count path in
    (passes path g h low w.high (omega (arith, path_count path, w.count)) {i = first_outside (path_of path)} refl (omega arith)).fits _ refl

-- ---- drawing a path within the limits

-- the walk's edges are those of the rules
pub walk_edges : (g : ℕ) (vs : List Vertex) {t : Vector} → t ≡ step_of g → joined (bodies_at t vs) ≡ edges_of g vs
unfolding edges_of bodies_of
walk_edges g vs e = rw e

pub walk_room : (path : List ℤ) {g : ℕ} {t : Vector} → Within g (path_of path) → t ≡ step_of g → Room edge_numbers 0 (joined (bodies_at t (path_of path)))
walk_room path {g} h e =
    let es = edges_of g (path_of path) in
    rw (walk_edges g (path_of path) e) (record { fits = omega (arith, edges_four es, edges_most g (path_of path), h.count) })

-- w is the position that the walk came to
module _ (path : List ℤ) (g : ℕ) {w : ℕ} {t : Vector} {l l₁ : List ℤ} (e : t ≡ step_of g)
    (p : Runs put edge_numbers l 0 (joined (bodies_at t (path_of path))) l₁ w) where
  pub numbers_walked : w ≡ 4 * length (edges_of g (path_of path))
  numbers_walked = omega (arith, p.pos, edges_four (edges_of g (path_of path)), ap (λ (es : List Edge). length (spread edge_numbers es)) (walk_edges g (path_of path) e))

  pub count_of : w / 4 ≡ length (edges_of g (path_of path))
  count_of = omega (arith, numbers_walked)

-- whatever further rows say, a refusal of the path's rows is the reply
pub path_refuses : (path : List ℤ) {g : ℕ} {c : Result ℕ Refusal} {r : Refusal} (more : List Row) (last : Reply) → PathSays path g c → c ≡ Err r → refusal_of r ≡ first_row (path_rows path g ++ more) last
unfolding or_path
path_refuses path {g} {c} more last s e =
    sym (rows_append (path_rows path g) more last ∙ s.says (first_row more last) ∙ ap (λ (x : Result ℕ Refusal). or_path x (first_row more last)) e)
