-- `plane::direction::direction` meets its contract: each component's size settled apart, the signs put back. Assumes nothing.
use Rattle.plane.proofs.Products.{back, short_fits}
use Rattle.plane.proofs.Directions.{asks_x, asks_y, direction_back}
use Rattle.plane.proofs.direction.direction.Goals as goal

pub part-requires : goal.part-requires
part-requires c =
    asks_x _ _ c.requires.0 c.requires.1 c.requires.2 (rw (back (short_fits c.requires.0.x)) at c.unsigned_abs.ensures.value)

pub part-requires-2 : goal.part-requires-2
part-requires-2 c =
    asks_y _ _ c.requires.0 c.requires.1 c.requires.2 (rw (back (short_fits c.requires.0.y)) at c.unsigned_abs-2.ensures.value)

pub returns : goal.returns
returns c =
    let h = c.requires.0 in
    direction_back _ h (rw (back (short_fits h.x)) at c.unsigned_abs.ensures.value) (rw (back (short_fits h.y)) at c.unsigned_abs-2.ensures.value)
    c.requires.2.square c.part.ensures.0 c.part-2.ensures.0
    c.signed.ensures c.signed-2.ensures (record { sfits = c.signed.type_inv }) (record { sfits = c.signed-2.type_inv })
