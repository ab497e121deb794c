-- `plane::rotation::scaled` meets its contract: a half added, or one less where the product is negative, and shifted down. Assumes nothing.
use Rattle.plane.proofs.Shifts.{minus_back, plus_back}
use Rattle.plane.proofs.rotation.scaled.Goals as goal

pub returns-then-d-lt0 : goal.returns-then-d-lt0
returns-then-d-lt0 c =
    let s = c.before.before.before in
    minus_back _ _ s.requires.0 s.requires.1 c.times-z.ensures c.if-d-lt0.true c.rounded.ensures (record { sfits = c.rounded.type_inv })

pub returns-else-d-lt0 : goal.returns-else-d-lt0
returns-else-d-lt0 c =
    let s = c.before.before.before in
    plus_back _ _ s.requires.0 s.requires.1 c.times-z.ensures c.if-d-lt0.false c.rounded-else-d-lt0.ensures (record { sfits = c.rounded-else-d-lt0.type_inv })
