-- `difference_walk::told_step` meets its contract: the edges that the step emits stand in `own`. Assumes nothing.
use native.Mathlib.Omega.{arith}
use Rattle.paths.proofs.Most.{emitted_most}
use Rattle.outline.proofs.OwnNumbers.{own_room, own_small, own_inside}
use Rattle.difference_walk.proofs.BodyByBody.{own_edges, told_walk}
use Rattle.difference_walk.proofs.told_step.Goals as goal

pub step-walked-requires : goal.step-walked-requires
step-walked-requires c = record { unit_long = (c.requires.unit_long, c.requires.around.0, c.requires.around.1); room = own_room (emitted_most c.args.t c.args.d.walk c.args.v) }

pub told-requires : goal.told-requires
told-requires c =
    let m = emitted_most c.args.t c.args.d.walk c.args.v in
    (omega (arith, own_inside m c.step-walked.ensures.made (omega (arith, m.most, c.requires.own_room))), omega (arith, own_small m c.step-walked.ensures.made), c.requires.no_wrap.0, c.requires.no_wrap.1)

pub returns : goal.returns
returns c =
    let m = emitted_most c.args.t c.args.d.walk c.args.v in
    told_walk c.step-walked.ensures.walk (c.told.ensures.each _ (own_edges m c.step-walked.ensures.made c.requires.own_room))
