-- `plane::direction::up` meets its contract. Assumes nothing.
use mathlib.Core.Path.{sym, ◌∙◌}
use Prim.Native.Nat.{◌+◌, ◌*◌, ◌^◌, ◌≤◌}
use borrow.Author.Tests.{leb-true, leb-false}
use Rattle.plane.proofs.Directions.{part_only, part_most}
use Rattle.plane.proofs.direction.up.Goals.{In-loop-n}
use Rattle.plane.proofs.direction.up.Goals as goal

-- the next number is within, and so at most 2 ^ 30
next : (c : In-loop-n) →
    let n = c.loop-n.n + 1 in
    let s = c.args in
    n * n * s.s ≤ s.c * s.c * 2 ^ 60
next c = leb-true _ _ (sym c.within.ensures ∙ c.loop-n-test.true)

most : (c : In-loop-n) → c.loop-n.n + 1 ≤ 2 ^ 30
most c = let s = c.before.before.before in part_most _ _ _ s.requires.4 s.requires.3 (next c)

pub returns : goal.returns
returns c =
    let s = c.before.before.before in
    let i = c.loop-n.invariant in
    (part_only _ _ _ s.requires.4 i.1 (leb-false _ _ (sym c.within.ensures ∙ c.loop-n-test.false)), i.0)
