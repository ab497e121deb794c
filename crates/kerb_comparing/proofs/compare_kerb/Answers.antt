-- `kerb_comparing::compare_kerb` meets its contract: the points, then a tour from the first of them; without edges three counts of none. Assumes nothing.
use native.Mathlib.Omega.{arith}
use Rattle.turning.proofs.Limits.{radius_back}
use Rattle.plane.proofs.Directions.{step_unit}
use Rattle.paths.proofs.PathWalk.{some}
use Rattle.kerb_paths.specs.Points.{kerb_path}
use Rattle.kerb_outline.proofs.CountsAhead.{counts_thin, words_thin, counts-none, words-none}
use Rattle.kerb_comparing.proofs.KerbComparisons.{bare_agrees, tour_room, tour_agrees}
use mathlib.Core.List.{List}
use Rattle.contacts.specs.declared.Vertex.{Vertex}
use Rattle.kerb_comparing.proofs.compare_kerb.Goals as goal
use Rattle.kerb_comparing.proofs.compare_kerb.Goals.{then-n-eq0-via-then-n-eq0, then-n-eq0-via-else-n-eq0+then-y-le1}

pub overflow_mul-base : goal.overflow_mul-base
overflow_mul-base c = omega (arith, c.requires.0, c.requires.1.count)

pub overflow_add-base : goal.overflow_add-base
overflow_add-base c = omega (arith, c.requires.0, c.requires.1.count)

pub overflow_mul-entry : goal.overflow_mul-entry
overflow_mul-entry c = omega (arith, c.requires.0, c.requires.1.count)

pub overflow_add-entry : goal.overflow_add-entry
overflow_add-entry c = omega (arith, c.requires.0, c.requires.1.count)

pub same_points-ok-requires : goal.same_points-ok-requires
same_points-ok-requires c = (c.requires.0, omega (arith, c.requires.0, c.requires.1.count), c.requires.1.inside)

pub no_bodies-requires : goal.no_bodies-requires
no_bodies-requires c = omega (arith, c.requires.0, c.requires.1.count)

pub returns-then-n-eq0 : goal.returns-then-n-eq0
returns-then-n-eq0 c =
    let vs : List Vertex = kerb_path c.args.y.radius c.args.points.now in
    elim c.then-n-eq0.branch [
      | then-n-eq0-via-then-n-eq0 w ↦ bare_agrees c.args.grade c.args.y vs c.requires.0 _ c.same_points-ok.ensures (counts-none c.args.grade c.args.y vs (omega (arith, c.requires.0, w.if-n-eq0.true))) (words-none c.args.grade c.args.y vs (omega (arith, c.requires.0, w.if-n-eq0.true))) c.no_bodies.ensures
      | then-n-eq0-via-else-n-eq0+then-y-le1 w ↦ bare_agrees c.args.grade c.args.y vs c.requires.0 _ c.same_points-ok.ensures (counts_thin c.args.grade c.args.y vs (rw (radius_back c.requires.2) at w.if-y-le1.true)) (words_thin c.args.grade c.args.y vs (rw (radius_back c.requires.2) at w.if-y-le1.true)) c.no_bodies.ensures
    ]

pub first_tour-requires : goal.first_tour-requires
first_tour-requires c = record { count = c.requires.0; some = (some _ c.if-n-eq0.false); few = omega (arith, c.requires.0, c.requires.1.count); inside = c.requires.1.inside; styled = record { radius = c.requires.2; draws = (rw (radius_back c.requires.2) at c.if-y-le1.false) } }

pub compare_tour-requires : goal.compare_tour-requires
compare_tour-requires c = record { lent = (record { count = c.requires.0; some = (some _ c.if-n-eq0.false); few = omega (arith, c.requires.0, c.requires.1.count); inside = c.requires.1.inside; styled = record { radius = c.requires.2; draws = (rw (radius_back c.requires.2) at c.if-y-le1.false) } }, step_unit _ c.step.ensures, c.requires.3); touring = c.first_tour.ensures.touring; tour_room = tour_room c.args.grade c.args.y (kerb_path c.args.y.radius c.args.points.now) c.requires.0 _ c.same_points-ok.ensures (omega (arith, c.requires.0, (some _ c.if-n-eq0.false))) (rw (radius_back c.requires.2) at c.if-y-le1.false) c.step.ensures c.first_tour.ensures.tour c.requires.1.count }

pub returns : goal.returns
returns c = tour_agrees c.args.grade c.args.y (kerb_path c.args.y.radius c.args.points.now) c.requires.0 _ c.same_points-ok.ensures (omega (arith, c.requires.0, (some _ c.if-n-eq0.false))) (rw (radius_back c.requires.2) at c.if-y-le1.false) c.step.ensures c.first_tour.ensures.tour c.compare_tour.ensures
