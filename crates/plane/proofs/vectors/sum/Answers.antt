-- `plane::vectors::sum` meets its contract: within the limits nothing on the way overflows. Assumes nothing.
use mathlib.Core.Path.{◌≡◌}
use lib.IntN.{◌*ℤ◌}
use Rattle.plane.proofs.Products.{bits, back, product_back, sum_fits}
use Rattle.plane.proofs.vectors.sum.Goals.{After-times-2, Start}
use Rattle.plane.proofs.vectors.sum.Goals as goal

abbrev start : After-times-2 → Start
start c = c.before.before

left : (c : After-times-2) → bits c.times.result ≡ (start c).args.a *ℤ (start c).args.b
left c = product_back (start c).requires.0 (start c).requires.1 c.times.ensures

right : (c : After-times-2) → bits c.times-2.result ≡ (start c).args.c *ℤ (start c).args.d
right c = product_back (start c).requires.2 (start c).requires.3 c.times-2.ensures

pub overflow_add-result : goal.overflow_add-result
overflow_add-result c = rw (left c, right c) (sum_fits (start c).requires.0 (start c).requires.1 (start c).requires.2 (start c).requires.3)

pub returns : goal.returns
returns c = rw (left c, right c) (back (sum_fits (start c).requires.0 (start c).requires.1 (start c).requires.2 (start c).requires.3))
