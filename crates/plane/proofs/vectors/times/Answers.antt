-- `plane::vectors::times` meets its contract: within the limits the product fits. Assumes nothing.
use mathlib.Core.Path.{◌≡◌}
use Rattle.plane.proofs.Products.{bits, back, factor_back, product_fits}
use Rattle.plane.proofs.vectors.times.Goals.{After-low-2}
use Rattle.plane.proofs.vectors.times.Goals as goal

left : (c : After-low-2) → bits c.low.result ≡ c.args.a
left c = factor_back c.requires.0 c.low.ensures

right : (c : After-low-2) → bits c.low-2.result ≡ c.args.b
right c = factor_back c.requires.1 c.low-2.ensures

pub returns : goal.returns
returns c = rw (left c, right c) (back (product_fits c.requires.0 c.requires.1))
