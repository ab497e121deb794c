-- `converting::redrawing::redraw_kerb` meets its contract: what is needed is the outline's length, so its test is the row of the room. Assumes nothing.
use mathlib.Core.List.{[]}
use native.Mathlib.Omega.{arith}
use Rattle.kerb_paths.specs.Points.{kerb_path}
use Rattle.outline.proofs.ReadBack.{few_edges}
use Rattle.outline.specs.declared.Form.TheVariants.{Kerb}
use Rattle.keeping.proofs.Rewrites.{needed_is}
use Rattle.converting.proofs.Redrawn.{redraw_short, redraw_done}
use Rattle.converting.proofs.redrawing.redraw_kerb.Goals as goal

pub whole_length-needed-requires : goal.whole_length-needed-requires
whole_length-needed-requires c =
    let vs = kerb_path c.args.plan.now.style.radius c.args.plan.now.points.now in
    omega (arith, c.args.plan.now.counted, c.count-m.ensures, few_edges (Kerb c.args.plan.now.style) c.args.plan.now.grade vs c.args.plan.now.within.count, c.args.plan.now.within.count)

pub returns-then-s-needed : goal.returns-then-s-needed
returns-then-s-needed c =
    let f = Kerb c.args.plan.now.style in
    let g = c.args.plan.now.grade in
    let vs = kerb_path c.args.plan.now.style.radius c.args.plan.now.points.now in
    redraw_short f g [] vs _ _ (needed_is f g [] vs c.args.plan.now.counted c.count-m.ensures c.whole_length-needed.ensures) c.if-s-needed.true

pub write-requires : goal.write-requires
write-requires c =
    let f = Kerb c.args.plan.now.style in
    let g = c.args.plan.now.grade in
    let vs = kerb_path c.args.plan.now.style.radius c.args.plan.now.points.now in record { room = omega (arith, c.requires.0); edges = c.count-m.ensures; fits = (omega (arith, needed_is f g [] vs c.args.plan.now.counted c.count-m.ensures c.whole_length-needed.ensures, c.if-s-needed.false), c.requires.1) }

pub returns : goal.returns
returns c =
    let f = Kerb c.args.plan.now.style in
    let g = c.args.plan.now.grade in
    let vs = kerb_path c.args.plan.now.style.radius c.args.plan.now.points.now in
    redraw_done f g [] vs _ _ (omega (arith, needed_is f g [] vs c.args.plan.now.counted c.count-m.ensures c.whole_length-needed.ensures, c.if-s-needed.false)) c.write.ensures
