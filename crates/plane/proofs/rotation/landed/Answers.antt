-- `plane::rotation::landed` meets its contract: the whole coordinate goes past the shift, and the rest is what `scaled` gives. Assumes nothing.
use native.Mathlib.Omega.{arith}
use Rattle.plane.proofs.Products.{small_back}
use Rattle.plane.proofs.Shifts.{product_size}
use Rattle.plane.proofs.Swinging.{landed_minus_back, landed_plus_back}
use Rattle.plane.proofs.rotation.landed.Goals as goal

pub lowered-requires : goal.lowered-requires
lowered-requires c =
    (small_back c.requires.0, product_size c.args.d _ c.requires.2 c.requires.3 c.times-p.ensures, record { size = omega arith })

pub returns-then-z-lt0 : goal.returns-then-z-lt0
returns-then-z-lt0 c =
    let s = c.before.before.before in
    landed_minus_back _ _ _ _ s.requires.0 s.requires.1 s.requires.2 s.requires.3 s.ranges.z c.times-p.ensures c.if-z-lt0.true c.lowered.ensures (record { sfits = c.lowered.type_inv })

pub returns-else-z-lt0 : goal.returns-else-z-lt0
returns-else-z-lt0 c =
    let s = c.before.before.before in
    landed_plus_back _ _ _ _ s.requires.0 s.requires.1 s.requires.2 s.requires.3 s.ranges.z c.times-p.ensures c.if-z-lt0.false c.lowered-else-z-lt0.ensures (record { sfits = c.lowered-else-z-lt0.type_inv })
