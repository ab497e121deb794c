-- `kerb_paths::points::point` meets its contract: two numbers read, each widened. Assumes nothing.
use native.Mathlib.Omega.{arith}
use Rattle.paths.proofs.PathWalk.{wide_read}
use Rattle.kerb_paths.proofs.PointsAhead.{point_count, kerb_point_read}
use borrow.Author.Rules.{rules}
use Rattle.kerb_paths.proofs.points.point.Goals as goal

pub overflow_mul-i : goal.overflow_mul-i
overflow_mul-i c = omega (arith, point_count c.args.y.radius c.args.points.now, c.requires)

pub offset_bounds-points-i : goal.offset_bounds-points-i
offset_bounds-points-i c = omega (arith, point_count c.args.y.radius c.args.points.now, c.requires)

pub bounds-points-i : goal.bounds-points-i
bounds-points-i c = omega (arith, point_count c.args.y.radius c.args.points.now, c.requires)

pub overflow_add-i : goal.overflow_add-i
overflow_add-i c = omega (arith, point_count c.args.y.radius c.args.points.now, c.requires)

pub offset_bounds-points-i-2 : goal.offset_bounds-points-i-2
offset_bounds-points-i-2 c = omega (arith, point_count c.args.y.radius c.args.points.now, c.requires)

pub bounds-points-i-2 : goal.bounds-points-i-2
bounds-points-i-2 c = omega (arith, point_count c.args.y.radius c.args.points.now, c.requires)

pub returns : goal.returns
returns c =
    kerb_point_read c.args.y.radius c.args.points.now c.args.k c.from.result c.from-2.result (search rules) c.requires
    (wide_read (record { sfits = c.from.type_inv }) (record { sfits = search rules }) c.from.ensures)
    (wide_read (record { sfits = c.from-2.type_inv }) (record { sfits = search rules }) c.from-2.ensures)
