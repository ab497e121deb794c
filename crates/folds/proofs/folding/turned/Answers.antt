-- `folds::folding::turned` meets its contract: the first edge has length, or nothing is told. Assumes nothing.
use Rattle.std.proofs.lemmas.Option.{IfSome_then}
use Rattle.plane.proofs.Products.{same_told}
use Rattle.plane.proofs.Directions.{unit_short}
use Rattle.turning.proofs.Limits.{told, radius_told_lem, point_is, next_unit}
use Rattle.leaps.proofs.Bows.{bends_first}
use Rattle.folds.proofs.folding.turned.Goals as goal

pub cross-requires : goal.cross-requires
cross-requires c = (unit_short c.requires.1, unit_short c.requires.0.toward)

pub stops-requires : goal.stops-requires
stops-requires c = (c.requires.1, next_unit c.requires.0.step c.requires.1 c.rotated-next.ensures, c.requires.0.toward, told c.cross.type_inv c.cross.ensures)

pub point_at-requires : goal.point_at-requires
point_at-requires c = (c.requires.0.centre, radius_told_lem c.requires.0.radius, next_unit c.requires.0.step c.requires.1 c.rotated-next.ensures)

pub turned_on-requires : goal.turned_on-requires
turned_on-requires c = (c.requires.0, next_unit c.requires.0.step c.requires.1 c.rotated-next.ensures)

pub returns : goal.returns
returns c =
    IfSome_then c.turned_on.result c.turned_on.ensures
    (λ n h. bends_first _ _ _ n c.rotated-next.ensures c.stops.ensures c.if-stops.false (point_is _ _ c.requires.0.radius c.point_at.ensures) (same_told _ _ c.eq.ensures) c.if-eq.false h.1)
