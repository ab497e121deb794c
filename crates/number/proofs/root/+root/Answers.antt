-- `number::root::root` meets its contract: a quarter falls, and twice its root is corrected by one. Assumes nothing.
use Rattle.std.proofs.Common.{ℕ, ◌-◌, ◌*◌, ◌/◌, ◌^◌, ◌<◌, ◌≤◌, sym, subst, arith}
use Rattle.number.specs.Root.{Root}
use Rattle.number.proofs.Roots.{root_is, root_only, more, same, quarter_bound, quarter_square}
use Rattle.number.proofs.root.+root.Goals.{After-root-q}
use Rattle.number.proofs.root.+root.Goals as goal

-- the root q that the call returned is that of n / 4, and small
quarter : (t : ℕ) (c : After-root-q t) → Root (c.args.n / 4) c.root-q.result
quarter t c = subst (λ (r : ℕ). Root (c.args.n / 4) r) (sym c.root-q.ensures) (root_is (c.args.n / 4))

bound : (t : ℕ) (c : After-root-q t) → c.root-q.result < 2 ^ 31
bound t c = quarter_bound c.args.n c.root-q.result (quarter t c) c.ranges.n.fits

square : (t : ℕ) (c : After-root-q t) → c.root-q.result * c.root-q.result ≤ (2 ^ 31 - 1) * (2 ^ 31 - 1)
square t c = quarter_square c.root-q.result (bound t c)

pub overflow_mul-r : goal.overflow_mul-r
overflow_mul-r t c = omega (arith, bound t c)

pub overflow_mul-w-2 : goal.overflow_mul-w-2
overflow_mul-w-2 t c = omega (arith, square t c, bound t c)

pub returns-then-w-n : goal.returns-then-w-n
returns-then-w-n t c = root_only _ _ (more _ _ (quarter t c.before) c.if-w-n.true)

pub returns-else-w-n : goal.returns-else-w-n
returns-else-w-n t c = root_only _ _ (same _ _ (quarter t c.before) c.if-w-n.false)
