-- `kerb_keeping::filling::KerbPlan::outline` meets its contract: header, points, and then a tour from the first of them; without edges three counts of none. Assumes nothing.
use native.Mathlib.Omega.{arith}
use Rattle.turning.proofs.Limits.{radius_back}
use Rattle.plane.proofs.Directions.{step_unit}
use Rattle.paths.proofs.PathWalk.{some}
use Rattle.kerb_paths.specs.Points.{kerb_path}
use Rattle.outline.specs.declared.Form.TheVariants.{Kerb}
use Rattle.outline.proofs.ReadBack.{few_edges}
use Rattle.kerb_outline.proofs.CountsAhead.{counts_thin, words_thin, counts-none, words-none}
use Rattle.kerb_keeping.proofs.KerbFilled.{table_at, bare_written, tour_room, tour_apart, tour_written}
use Rattle.kerb_keeping.proofs.filling.KerbPlan.outline.Goals as goal

pub overflow_cast-m : goal.overflow_cast-m
overflow_cast-m c = omega (arith, c.requires.edges, few_edges (Kerb c.args.self.now.style) c.args.self.now.grade (kerb_path c.args.self.now.style.radius c.args.self.now.points.now) c.args.self.now.within.count)

pub put_none-requires : goal.put_none-requires
put_none-requires c = omega (arith, table_at c.args.self.now.grade c.args.self.now.style (kerb_path c.args.self.now.style.radius c.args.self.now.points.now) c.args.self.now.counted c.requires.edges c.put_header.ensures c.put_points-table.ensures, c.args.self.now.counted, c.args.self.now.within.count)

pub returns-then-self-eq0 : goal.returns-then-self-eq0
returns-then-self-eq0 c =
    let y = c.args.self.now.style in
    let vs = kerb_path y.radius c.args.self.now.points.now in
    let bare = bare_written c.args.self.now.grade y vs c.args.self.now.counted c.requires.edges c.put_header.ensures c.put_points-table.ensures in
    elim c.then-self-eq0.branch [
      | goal.then-self-eq0-via-then-self-eq0 w ↦ bare (counts-none c.args.self.now.grade y vs (omega (arith, c.args.self.now.counted, w.if-self-eq0.true))) (words-none c.args.self.now.grade y vs (omega (arith, c.args.self.now.counted, w.if-self-eq0.true))) c.put_none.ensures
      | goal.then-self-eq0-via-else-self-eq0+then-self-le1 w ↦ bare (counts_thin c.args.self.now.grade y vs (rw (radius_back c.args.self.now.wide) at w.if-self-le1.true)) (words_thin c.args.self.now.grade y vs (rw (radius_back c.args.self.now.wide) at w.if-self-le1.true)) c.put_none.ensures
    ]

pub first_tour-requires : goal.first_tour-requires
first_tour-requires c = record { count = c.args.self.now.counted; some = (some _ c.if-self-eq0.false); few = omega (arith, c.args.self.now.counted, c.args.self.now.within.count); inside = c.args.self.now.within.inside; styled = record { radius = c.args.self.now.wide; draws = (rw (radius_back c.args.self.now.wide) at c.if-self-le1.false) } }

pub fill_tour-requires : goal.fill_tour-requires
fill_tour-requires c = record { lent = (record { count = c.args.self.now.counted; some = (some _ c.if-self-eq0.false); few = omega (arith, c.args.self.now.counted, c.args.self.now.within.count); inside = c.args.self.now.within.inside; styled = record { radius = c.args.self.now.wide; draws = (rw (radius_back c.args.self.now.wide) at c.if-self-le1.false) } }, step_unit _ c.step.ensures, c.requires.room, c.first_tour.ensures.touring); room = (tour_room c.args.self.now.grade c.args.self.now.style (kerb_path c.args.self.now.style.radius c.args.self.now.points.now) c.args.self.now.counted c.requires.edges c.put_header.ensures c.put_points-table.ensures (omega (arith, c.args.self.now.counted, (some _ c.if-self-eq0.false))) (rw (radius_back c.args.self.now.wide) at c.if-self-le1.false) c.step.ensures c.first_tour.ensures.tour c.args.self.now.within.count, tour_apart c.args.self.now.grade c.args.self.now.style (kerb_path c.args.self.now.style.radius c.args.self.now.points.now) c.args.self.now.counted c.requires.edges c.put_header.ensures c.put_points-table.ensures (omega (arith, c.args.self.now.counted, (some _ c.if-self-eq0.false))) (rw (radius_back c.args.self.now.wide) at c.if-self-le1.false) c.step.ensures c.first_tour.ensures.tour c.args.self.now.within.count) }

pub returns : goal.returns
returns c = tour_written c.args.self.now.grade c.args.self.now.style (kerb_path c.args.self.now.style.radius c.args.self.now.points.now) c.args.self.now.counted c.requires.edges c.put_header.ensures c.put_points-table.ensures (omega (arith, c.args.self.now.counted, (some _ c.if-self-eq0.false))) (rw (radius_back c.args.self.now.wide) at c.if-self-le1.false) c.step.ensures c.first_tour.ensures.tour c.args.self.now.within.count c.fill_tour.ensures
