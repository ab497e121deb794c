-- `turning::kinds::empty` meets its contract: the tests that need no kind come first. Assumes nothing.
use mathlib.Core.Path.{◌≡◌, sym, ◌∙◌}
use mathlib.Core.Bool.{true≢false, false}
use Rattle.plane.specs.Vectors.{same_point}
use Rattle.plane.proofs.Products.{same_told}
use Rattle.turning.proofs.Cases.{is_minor_told, is_major_told, empty_start, empty_end, empty_minor, empty_major}
use Rattle.turning.proofs.kinds.empty.Goals.{Else-eq-2, then-eq, else-eq}
use Rattle.turning.proofs.kinds.empty.Goals as goal

-- neither end is at the centre
off : (c : Else-eq-2) → let a = c.args in (same_point a.p a.c ≡ false) × (same_point a.q a.c ≡ false)
off c =
    elim c.if-eq.branch [
      | then-eq w ↦ absurd (true≢false (sym w.if-eq.true ∙ sym w.value-is ∙ c.if-eq-2.false))
      | else-eq w ↦ (sym (same_told _ _ c.eq.ensures) ∙ w.if-eq.false, sym (same_told _ _ w.eq-else-eq.ensures) ∙ sym w.value-is ∙ c.if-eq-2.false)
    ]

pub returns-then-eq-2 : goal.returns-then-eq-2
returns-then-eq-2 c =
    c.if-eq-2.true
    ∙ elim c.if-eq.branch [
      | then-eq w ↦ empty_start _ _ _ _ (sym (same_told _ _ c.eq.ensures) ∙ w.if-eq.true)
      | else-eq w ↦ empty_end _ _ _ _ (sym (same_told _ _ w.eq-else-eq.ensures) ∙ sym w.value-is ∙ c.if-eq-2.true)
    ]

pub returns-then-eq-3 : goal.returns-then-eq-3
returns-then-eq-3 c =
    let o = off (goal.at.returns-then-eq-3 c).Else-eq-2 in
    same_told _ _ c.eq-then-eq-3.ensures ∙ empty_minor _ _ _ (is_minor_told _ c.if-eq-3.ensures) o.0 o.1

pub returns-else-eq-3 : goal.returns-else-eq-3
returns-else-eq-3 c =
    let o = off (goal.at.returns-else-eq-3 c).Else-eq-2 in
    c.if-eq-3.false ∙ empty_major _ _ _ (is_major_told _ c.if-eq-3.ensures) o.0 o.1
