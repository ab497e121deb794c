-- `difference_walk::told_end` meets its contract: the edges of the closing body stand in `own`. Assumes nothing.
use native.Mathlib.Omega.{arith}
use Rattle.outline.proofs.OwnNumbers.{close_most, own_room, own_small, own_inside}
use Rattle.difference_walk.proofs.BodyByBody.{own_edges}
use Rattle.difference_walk.proofs.told_end.Goals as goal

pub close-numbers-requires : goal.close-numbers-requires
close-numbers-requires c = record { unit_long = (c.requires.unit_long, c.requires.around); room = own_room (close_most c.args.t c.args.d.walk) }

pub told-requires : goal.told-requires
told-requires c =
    let m = close_most c.args.t c.args.d.walk in
    (omega (arith, own_inside m c.close-numbers.ensures (omega (arith, m.most, c.requires.own_room))), omega (arith, own_small m c.close-numbers.ensures), c.requires.no_wrap.0, c.requires.no_wrap.1)

pub returns : goal.returns
returns c = c.told.ensures.each _ (own_edges (close_most c.args.t c.args.d.walk) c.close-numbers.ensures c.requires.own_room)
