-- `turning::kinds::full` meets its contract: directions are short, so both products are told exactly. Assumes nothing.
use mathlib.Core.Path.{sym, ◌∙◌}
use mathlib.Core.Bool.{true≢false}
use Rattle.plane.proofs.Directions.{unit_short}
use Rattle.turning.proofs.Limits.{told}
use Rattle.turning.proofs.Cases.{major_told, minor_told, full_minor, full_first, full_not}
use Rattle.turning.proofs.kinds.full.Goals.{then-eq, else-eq}
use Rattle.turning.proofs.kinds.full.Goals as goal

pub cross-requires : goal.cross-requires
cross-requires c = (unit_short c.requires.0, unit_short c.requires.1)

pub dot-requires : goal.dot-requires
dot-requires c = (unit_short c.requires.0, unit_short c.requires.1)

pub returns-then-cross-ge0 : goal.returns-then-cross-ge0
returns-then-cross-ge0 c =
    elim c.if-eq.branch [
      | then-eq w ↦ full_first _ _ (major_told _ w.if-eq.ensures) (told w.cross.type_inv w.cross.ensures) (told c.dot.type_inv c.dot.ensures) (sym w.value-is ∙ c.if-cross-ge0.true)
      | else-eq w ↦ absurd (true≢false (sym c.if-cross-ge0.true ∙ w.value-is ∙ w.if-eq.false))
    ]

pub returns-else-cross-ge0 : goal.returns-else-cross-ge0
returns-else-cross-ge0 c =
    elim c.if-eq.branch [
      | then-eq w ↦ w.value-is ∙ full_not _ _ (major_told _ w.if-eq.ensures) (told w.cross.type_inv w.cross.ensures) (sym w.value-is ∙ c.if-cross-ge0.false)
      | else-eq w ↦ w.value-is ∙ w.if-eq.false ∙ full_minor _ _ (minor_told _ w.if-eq.ensures)
    ]
