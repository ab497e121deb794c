-- `plane::vectors::square` meets its contract: the squares of two sizes of at most 2^30 fit. Assumes nothing.
use mathlib.Core.Path.{◌≡◌}
use lib.IntN.{nat_abs}
use Rattle.plane.specs.Vectors.{square_of}
use Rattle.plane.proofs.Products.{short_fits, back}
use Rattle.plane.proofs.vectors.square.Goals.{After-unsigned_abs-n}
use Rattle.plane.proofs.vectors.square.Goals as goal

-- the two sizes, and their squares
left : (c : After-unsigned_abs-n) → c.unsigned_abs-m.result ≡ nat_abs c.args.v.x
left c = rw (back (short_fits c.requires.x)) at c.unsigned_abs-m.ensures.value

right : (c : After-unsigned_abs-n) → c.unsigned_abs-n.result ≡ nat_abs c.args.v.y
right c = rw (back (short_fits c.requires.y)) at c.unsigned_abs-n.ensures.value

pub returns : goal.returns
unfolding square_of
returns c = rw (left c, right c)
