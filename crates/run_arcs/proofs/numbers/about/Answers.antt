-- `run_arcs::numbers::about` meets its contract: the squared length of the ray was tested. Assumes nothing.
use Rattle.plane.proofs.Products.{from_to_short}
use Rattle.run_arcs.proofs.numbers.about.Goals as goal

pub square-requires : goal.square-requires
square-requires c = rw c.from_to.ensures (from_to_short c.requires (c.near.ensures c.if-near.true))
