-- `turning::kinds::sweep` meets its contract: rays are short, so both products are told exactly. Assumes nothing.
use Rattle.turning.proofs.Limits.{told}
use Rattle.turning.proofs.Cases.{sweep_left, sweep_right, sweep_back, sweep_chosen}
use Rattle.turning.proofs.kinds.sweep.Goals as goal

pub returns-then-z-gt0 : goal.returns-then-z-gt0
returns-then-z-gt0 c = sweep_left _ _ _ (told c.cross-z.type_inv c.cross-z.ensures) c.if-z-gt0.true

pub returns-then-z-lt0 : goal.returns-then-z-lt0
returns-then-z-lt0 c = sweep_right _ _ _ (told c.cross-z.type_inv c.cross-z.ensures) c.if-z-gt0.false c.if-z-lt0.true

pub returns-then-dot-lt0 : goal.returns-then-dot-lt0
returns-then-dot-lt0 c =
    let e = c.before.before.before in
    sweep_back _ _ _ (told e.cross-z.type_inv e.cross-z.ensures) e.if-z-gt0.false c.if-z-lt0.false (told c.dot.type_inv c.dot.ensures) c.if-dot-lt0.true

pub returns-else-dot-lt0 : goal.returns-else-dot-lt0
returns-else-dot-lt0 c =
    let e = c.before.before.before in
    sweep_chosen _ _ _ (told e.cross-z.type_inv e.cross-z.ensures) e.if-z-gt0.false c.if-z-lt0.false (told c.dot.type_inv c.dot.ensures) c.if-dot-lt0.false
