-- `plane::rotation::rotated` meets its contract: neither is longer than 2^30, so each product fits. Assumes nothing.
use Rattle.plane.proofs.Directions.{unit_short}
use Rattle.plane.proofs.Products.{short_back}
use Rattle.plane.proofs.Turns.{turned_back}
use Rattle.plane.proofs.rotation.rotated.Goals as goal

pub difference-requires : goal.difference-requires
difference-requires c =
    let t = unit_short c.requires.0 in
    let v = unit_short c.requires.1 in
    (short_back t.x, short_back v.x, short_back t.y, short_back v.y)

pub sum-requires : goal.sum-requires
sum-requires c =
    let t = unit_short c.requires.0 in
    let v = unit_short c.requires.1 in
    (short_back t.y, short_back v.x, short_back t.x, short_back v.y)

pub returns : goal.returns
returns c = turned_back _ _ (unit_short c.requires.0) (unit_short c.requires.1) c.difference.ensures c.part.ensures c.sum.ensures c.part-2.ensures
