-- `number::root::up` meets its contract: one more while its square is within, so the last is the root. Assumes nothing.
use Rattle.std.proofs.Common.{◌+◌, ◌*◌, ◌≤◌, arith}
use Rattle.number.proofs.Roots.{root_only}
use Rattle.number.proofs.root.up.Goals.{In-loop-r}
use Rattle.number.proofs.root.up.Goals as goal

-- the square of one more is within too
within : (c : In-loop-r) → (c.loop-r.r + 1) * (c.loop-r.r + 1) ≤ c.args.n
within c = omega (arith, c.square.ensures, c.loop-r-test.true)

pub returns : goal.returns
returns c = root_only _ _ (record { low = c.loop-r.invariant.0; high = omega (arith, c.square.ensures, c.loop-r-test.false) })
