-- `converting::redrawing::redraw_stroke` meets its contract: what is needed is the outline's length, so its test is the row of the room. Assumes nothing.
use native.Mathlib.Omega.{arith}
use Rattle.paths.specs.Paths.{path_of}
use Rattle.outline.proofs.FormLengths.{length_small}
use Rattle.outline.proofs.ReadBack.{few_edges}
use Rattle.outline.specs.declared.Form.TheVariants.{Stroke}
use Rattle.keeping.proofs.Rewrites.{needed_is}
use Rattle.own_room.proofs.StepRooms.{numbers_any}
use Rattle.converting.proofs.Redrawn.{redraw_short, redraw_done}
use Rattle.converting.proofs.redrawing.redraw_stroke.Goals as goal

pub count-m-requires : goal.count-m-requires
count-m-requires c = (c.args.plan.now.counted, c.args.plan.now.within)

pub whole_length-needed-requires : goal.whole_length-needed-requires
whole_length-needed-requires c =
    let vs = path_of c.args.plan.now.path.now in
    length_small (Stroke c.args.plan.now.edition) _ _ (omega (arith, c.args.plan.now.counted, c.args.plan.now.within.count)) (omega (arith, c.count-m.ensures, few_edges (Stroke c.args.plan.now.edition) c.args.plan.now.grade vs c.args.plan.now.within.count))

pub returns-then-s-needed : goal.returns-then-s-needed
returns-then-s-needed c =
    let f = Stroke c.args.plan.now.edition in
    let g = c.args.plan.now.grade in
    let ps = c.args.plan.now.posts.now in
    let vs = path_of c.args.plan.now.path.now in
    redraw_short f g ps vs _ _ (needed_is f g ps vs c.args.plan.now.counted c.count-m.ensures c.whole_length-needed.ensures) c.if-s-needed.true

pub write-requires : goal.write-requires
write-requires c =
    let f = Stroke c.args.plan.now.edition in
    let g = c.args.plan.now.grade in
    let ps = c.args.plan.now.posts.now in
    let vs = path_of c.args.plan.now.path.now in record { room = numbers_any g c.requires.0; edges = c.count-m.ensures; fits = (omega (arith, c.if-s-needed.false, needed_is f g ps vs c.args.plan.now.counted c.count-m.ensures c.whole_length-needed.ensures), c.requires.1) }

pub returns : goal.returns
returns c =
    let f = Stroke c.args.plan.now.edition in
    let g = c.args.plan.now.grade in
    let ps = c.args.plan.now.posts.now in
    let vs = path_of c.args.plan.now.path.now in
    redraw_done f g ps vs _ _ (omega (arith, c.if-s-needed.false, needed_is f g ps vs c.args.plan.now.counted c.count-m.ensures c.whole_length-needed.ensures)) c.write.ensures
