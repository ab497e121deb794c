-- `kerb::corners::round` meets its contract: one edge, or the arc from one direction to the other. Assumes nothing.
use mathlib.Core.Path.{ap, ◌∙◌}
use Rattle.runs.proofs.Laws.{room_as}
use Rattle.plane.specs.Directions.{direction_of}
use Rattle.turning.proofs.Limits.{centre_near, radius_back, radius_told_lem}
use Rattle.turning.proofs.Rays.{short_told, some_told, unit_told}
use Rattle.folds.proofs.Laid.{lays_edge, lays_as}
use Rattle.kerb.proofs.CornerCases.{off_near, round_edge, round_swept}
use Rattle.kerb.proofs.corners.round.Goals as goal

pub from_to-m-requires : goal.from_to-m-requires
from_to-m-requires c = (centre_near c.requires.unit_long.1, off_near c.requires.unit_long.3 c.requires.unit_long.1)

pub from_to-n-requires : goal.from_to-n-requires
from_to-n-requires c = (centre_near c.requires.unit_long.1, off_near c.requires.unit_long.4 c.requires.unit_long.1)

pub measured-k-requires : goal.measured-k-requires
measured-k-requires c = (short_told c.requires.unit_long.3.about c.from_to-m.ensures, some_told c.from_to-m.ensures c.requires.unit_long.3.some)

pub measured-l-requires : goal.measured-l-requires
measured-l-requires c = (short_told c.requires.unit_long.4.about c.from_to-n.ensures, some_told c.from_to-n.ensures c.requires.unit_long.4.some)

pub direction-d-requires : goal.direction-d-requires
direction-d-requires c = (short_told c.requires.unit_long.3.about c.from_to-m.ensures, some_told c.from_to-m.ensures c.requires.unit_long.3.some, c.measured-k.ensures)

pub direction-e-requires : goal.direction-e-requires
direction-e-requires c = (short_told c.requires.unit_long.4.about c.from_to-n.ensures, some_told c.from_to-n.ensures c.requires.unit_long.4.some, c.measured-l.ensures)

pub straight-requires : goal.straight-requires
straight-requires c = (unit_told c.from_to-m.ensures c.requires.unit_long.3.some c.direction-d.ensures, unit_told c.from_to-n.ensures c.requires.unit_long.4.some c.direction-e.ensures)

pub edge-requires : goal.edge-requires
edge-requires c = record { near = (off_near c.requires.unit_long.3 c.requires.unit_long.1, off_near c.requires.unit_long.4 c.requires.unit_long.1); room = room_as (round_edge _ _ _ _ _ c.from_to-m.ensures c.from_to-n.ensures c.direction-d.ensures c.direction-e.ensures c.straight.ensures c.if-straight.true) c.requires.room }

pub returns-then-straight : goal.returns-then-straight
returns-then-straight c = lays_as (round_edge _ _ _ _ _ c.from_to-m.ensures c.from_to-n.ensures c.direction-d.ensures c.direction-e.ensures c.straight.ensures c.if-straight.true) (lays_edge (off_near c.requires.unit_long.3 c.requires.unit_long.1) (off_near c.requires.unit_long.4 c.requires.unit_long.1) c.edge.ensures)

pub swept-requires : goal.swept-requires
swept-requires c =
    let h = c.requires.unit_long in record { unit_long = (h.0, h.1, radius_told_lem h.2, h.3.about, h.4.about); unit_long_2 = (unit_told c.from_to-m.ensures h.3.some c.direction-d.ensures, unit_told c.from_to-n.ensures h.4.some c.direction-e.ensures, c.direction-d.ensures ∙ ap direction_of c.from_to-m.ensures, c.direction-e.ensures ∙ ap direction_of c.from_to-n.ensures); room = room_as (round_swept _ _ _ _ _ c.from_to-m.ensures c.from_to-n.ensures c.direction-d.ensures c.direction-e.ensures c.straight.ensures c.if-straight.false (radius_back h.2)) c.requires.room }

pub returns : goal.returns
returns c = lays_as (round_swept _ _ _ _ _ c.from_to-m.ensures c.from_to-n.ensures c.direction-d.ensures c.direction-e.ensures c.straight.ensures c.if-straight.false (radius_back c.requires.unit_long.2)) c.swept.ensures
