-- `plane::direction::part` meets its contract: the guess where it is settled at once, else the number that the search settles on. Assumes nothing.
use Rattle.plane.proofs.Directions.{lifted_below, settled_part}
use Rattle.plane.proofs.direction.part.Goals as goal

pub settled-requires : goal.settled-requires
settled-requires c = (c.guess-g.ensures, lifted_below _ _ _ c.requires.1 c.requires.4)

pub returns-then-settled : goal.returns-then-settled
returns-then-settled c =
    let s = c.before.before.before in
    (settled_part _ _ _ s.requires.1 s.requires.4 _ s.requires.2 c.settled.ensures c.if-settled.true, c.guess-g.ensures)
