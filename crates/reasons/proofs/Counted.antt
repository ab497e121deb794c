-- A rule's edges over no room: how many there are, and that no count wraps. Assumes nothing.
use mathlib.Core.Path.{◌≡◌, ap}
use mathlib.Core.Bool.{true, false}
use mathlib.Core.List.{List}
use Prim.Native.Nat.{ℕ, ◌/◌, ◌≤◌}
use native.Mathlib.Omega.{arith}
use lib.IntN.{ℤ}
use lib.ListN.{length, length-append}
use Rattle.runs.specs.Runs.{Runs, Room, put}
use Rattle.plane.specs.declared.Vector.{Vector}
use Rattle.turning.specs.Edges.{edge_numbers}
use Rattle.turning.specs.Bounds.{Most}
use Rattle.turning.specs.declared.Edge.{Edge}
use Rattle.turning.proofs.Most.{most_both, edges_four}
use Rattle.folds.specs.Pens.{Lays}
use Rattle.folds.specs.declared.Pen.{Pen}
use Rattle.folds.proofs.Laid.{lays_plain}
use Rattle.contacts.specs.declared.Section.{Section}
use Rattle.joins.specs.Joins.{left_join, right_join, same_centre, gap_of}
use Rattle.joins.specs.declared.Cap.TheVariants.{Butt}
use Rattle.joins.proofs.CapsAndJoins.{join_met}
use Rattle.paths.proofs.Most.{start_most, end_most, join_most}

pub few_room : {n : ℕ} {es : List Edge} → Most n es → n ≤ 9227 → Room edge_numbers 0 es
few_room {n} {es} m h = record { fits = omega (arith, edges_four es, m.most) }

pub run_count : {l₀ l₁ : List ℤ} {n : ℕ} {es : List Edge} → Runs put edge_numbers l₀ 0 es l₁ n → n / 4 ≡ length es
run_count {es = es} p = omega (arith, p.pos, edges_four es)

pub plain_count : (rule : Vector → List Edge) {pen : Pen} {t : Vector} {l₀ l₁ : List ℤ} {n : ℕ} → pen.step ≡ t → pen.folds ≡ false
    → Lays pen.step pen.folds l₀ 0 (rule pen.step) l₁ n → n / 4 ≡ length (rule t)
plain_count rule e f p = rw (← e) (run_count (lays_plain f p))

module _ (t : Vector) (prev next : Section) where
  module _ (e : same_centre prev next ≡ true) where
    pub left_few : Most 6150 (left_join t prev next)
    left_few = record { most = omega (arith, (join_most t prev next).most, ap length (join_met t prev next e), length-append (left_join t prev next) (right_join t prev next)) }

    pub right_few : Most 6150 (right_join t prev next)
    right_few = record { most = omega (arith, (join_most t prev next).most, ap length (join_met t prev next e), length-append (left_join t prev next) (right_join t prev next)) }

  pub gap_few : Most 6150 (gap_of t prev next)
  unfolding gap_of
  gap_few = most_both (end_most t prev Butt) (start_most t next Butt)
