-- `leaps::leaps::leapt` meets its contract: each leap goes on from where the last came to. Assumes nothing.
use native.Mathlib.Omega.{arith}
use Rattle.turning.proofs.Limits.{next_unit}
use Rattle.leaps.proofs.Leaping.{comes_start, leads_same, leaps_eight}
use Rattle.leaps.proofs.leaps.leapt.Goals as goal

pub rotated-two-requires : goal.rotated-two-requires
rotated-two-requires c = (c.requires.0.step, c.requires.0.step)

pub rotated-four-requires : goal.rotated-four-requires
rotated-four-requires c =
    let u = next_unit c.requires.0.step c.requires.0.step c.rotated-two.ensures in
    (u, u)

pub rotated-eight-requires : goal.rotated-eight-requires
rotated-eight-requires c =
    let u = next_unit c.requires.0.step c.requires.0.step c.rotated-two.ensures in
    let v = next_unit u u c.rotated-four.ensures in
    (v, v)

pub sway-far-requires : goal.sway-far-requires
sway-far-requires c = c.requires.0.step

pub loop-s-init : goal.loop-s-init
loop-s-init c = leads_same c.requires.1 (omega arith) (omega arith)

pub leap_on-requires : goal.leap_on-requires
leap_on-requires c = record { turns = (c.requires.0, leaps_eight _ c.requires.0.step c.rotated-two.ensures c.rotated-four.ensures c.rotated-eight.ensures, c.sway-far.ensures, c.requires.2); unit_long = (c.loop-s.invariant.unit, omega (arith, c.loop-s-test.true), c.loop-s.invariant.off) }

pub returns : goal.returns
returns c = c.loop-s.invariant.comes _ c.requires.1 (comes_start _ _ _ c.requires.1)

pub returns-in_default : goal.returns-in_default
returns-in_default c = c.loop-s.invariant.comes _ c.requires.1 (comes_start _ _ _ c.requires.1)
