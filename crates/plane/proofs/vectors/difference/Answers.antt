-- `plane::vectors::difference` meets its contract: within the limits nothing on the way overflows. Assumes nothing.
use mathlib.Core.Path.{◌≡◌}
use lib.IntN.{◌*ℤ◌}
use Rattle.plane.proofs.Products.{bits, back, product_back, difference_fits}
use Rattle.plane.proofs.vectors.difference.Goals.{After-times-2, Start}
use Rattle.plane.proofs.vectors.difference.Goals as goal

abbrev start : After-times-2 → Start
start c = c.before.before

left : (c : After-times-2) → bits c.times.result ≡ (start c).args.a *ℤ (start c).args.b
left c = product_back (start c).requires.0 (start c).requires.1 c.times.ensures

right : (c : After-times-2) → bits c.times-2.result ≡ (start c).args.c *ℤ (start c).args.d
right c = product_back (start c).requires.2 (start c).requires.3 c.times-2.ensures

pub overflow_sub-result : goal.overflow_sub-result
overflow_sub-result c = rw (left c, right c) (difference_fits (start c).requires.0 (start c).requires.1 (start c).requires.2 (start c).requires.3)

pub returns : goal.returns
returns c = rw (left c, right c) (back (difference_fits (start c).requires.0 (start c).requires.1 (start c).requires.2 (start c).requires.3))
