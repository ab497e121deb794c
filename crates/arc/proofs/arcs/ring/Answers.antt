-- `arc::arcs::ring` meets its contract: the root of the squared length is a radius within the limits. Assumes nothing.
use mathlib.Core.Path.{◌≡◌}
use mir.Syntax.{w64}
use mir.Val.{to_z}
use Rattle.runs.proofs.Laws.{room_first}
use Rattle.plane.specs.Vectors.{from_to}
use Rattle.turning.specs.Arcs.{ring_of}
use Rattle.turning.proofs.Limits.{centre_near}
use Rattle.turning.proofs.Rays.{about_near, short_told, ring_radius, ring_told}
use Rattle.folds.proofs.Laid.{lays_edge, lays_then, room_past}
use Rattle.arc.proofs.arcs.ring.Goals.{After-root-radius}
use Rattle.arc.proofs.arcs.ring.Goals as goal

radius : (c : After-root-radius) → to_z w64 c.root-radius.result ≡ ring_of (from_to c.args.c c.args.p)
radius c = ring_told c.requires.unit_long.2 c.from_to.ensures c.square-s.ensures c.root-radius.ensures

pub from_to-requires : goal.from_to-requires
from_to-requires c = (centre_near c.requires.unit_long.1, about_near c.requires.unit_long.2 c.requires.unit_long.1)

pub square-s-requires : goal.square-s-requires
square-s-requires c = short_told c.requires.unit_long.2 c.from_to.ensures

pub circle-n-requires : goal.circle-n-requires
circle-n-requires c =
    let h = c.requires.unit_long in
    record { unit_long = rw (radius (goal.at.circle-n-requires c).After-root-radius) (h.0, h.1, ring_radius h.2); room = rw (radius (goal.at.circle-n-requires c).After-root-radius) (room_first _ _ c.requires.room) }

pub edge-requires : goal.edge-requires
edge-requires c =
    let h = c.requires.unit_long in record { near = (about_near h.2 h.1, about_near h.3 h.1); room = room_past _ (rw (radius (goal.at.edge-requires c).After-root-radius) at c.circle-n.ensures) c.requires.room }

pub returns : goal.returns
returns c =
    let h = c.requires.unit_long in
    lays_then (rw (radius (goal.at.returns c).After-root-radius) at c.circle-n.ensures) (lays_edge (about_near h.2 h.1) (about_near h.3 h.1) c.edge.ensures)
