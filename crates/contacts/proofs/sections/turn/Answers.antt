-- `contacts::sections::turn` meets its contract: the corners lie near. Assumes nothing.
use Rattle.contacts.proofs.Covers.{corners, way_short, turn_back}
use Rattle.contacts.proofs.sections.turn.Goals as goal

pub from_to-requires : goal.from_to-requires
from_to-requires c = let k = corners c.requires in (k.left_a, k.left_b)

pub from_to-requires-2 : goal.from_to-requires-2
from_to-requires-2 c = let k = corners c.requires in (k.left_b, k.right_b)

pub cross-requires : goal.cross-requires
cross-requires c =
    let k = corners c.requires in
    (way_short c.from_to.ensures k.left_a k.left_b, way_short c.from_to-2.ensures k.left_b k.right_b)

pub returns : goal.returns
returns c = turn_back _ c.from_to.ensures c.from_to-2.ensures c.cross.ensures (record { sfits = c.cross.type_inv })
