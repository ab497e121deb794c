-- `turning::turn::near` meets its contract: directions are short, so the product is told exactly. Assumes nothing.
use mathlib.Core.Path.{◌≡◌, ◌∙◌}
use Rattle.plane.specs.Vectors.{cross_of}
use Rattle.plane.proofs.Products.{bits, back}
use Rattle.plane.proofs.Directions.{unit_short}
use Rattle.turning.proofs.Limits.{told}
use Rattle.turning.proofs.Cases.{near_first, near_not}
use Rattle.turning.proofs.turn.near.Goals.{Start}
use Rattle.turning.proofs.turn.near.Goals as goal

across : (c : Start) → bits c.args.z ≡ cross_of c.args.d c.args.e
across c = back c.ranges.z ∙ c.requires.2

pub dot-requires : goal.dot-requires
dot-requires c = (unit_short c.requires.0, unit_short c.requires.1)

pub returns-then-z-ge0 : goal.returns-then-z-ge0
returns-then-z-ge0 c = near_first _ _ (across c.before.before) (told c.dot.type_inv c.dot.ensures) c.if-z-ge0.true

pub returns-else-z-ge0 : goal.returns-else-z-ge0
returns-else-z-ge0 c = near_not _ _ (across c.before) c.if-z-ge0.false
