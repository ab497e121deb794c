-- `paths::paths::vertex` meets its contract: three numbers read, each widened. Assumes nothing.
use borrow.Author.Rules.{rules}
use native.Mathlib.Omega.{arith}
use Rattle.paths.proofs.PathWalk.{path_count, wide_read, vertex_read}
use Rattle.paths.proofs.paths.vertex.Goals as goal

pub overflow_mul-i : goal.overflow_mul-i
overflow_mul-i c = omega (arith, path_count c.args.path.now, c.requires)

pub offset_bounds-path-i : goal.offset_bounds-path-i
offset_bounds-path-i c = omega (arith, path_count c.args.path.now, c.requires)

pub bounds-path-i : goal.bounds-path-i
bounds-path-i c = omega (arith, path_count c.args.path.now, c.requires)

pub overflow_add-i : goal.overflow_add-i
overflow_add-i c = omega (arith, path_count c.args.path.now, c.requires)

pub offset_bounds-path-i-2 : goal.offset_bounds-path-i-2
offset_bounds-path-i-2 c = omega (arith, path_count c.args.path.now, c.requires)

pub bounds-path-i-2 : goal.bounds-path-i-2
bounds-path-i-2 c = omega (arith, path_count c.args.path.now, c.requires)

pub overflow_add-i-2 : goal.overflow_add-i-2
overflow_add-i-2 c = omega (arith, path_count c.args.path.now, c.requires)

pub offset_bounds-path-i-3 : goal.offset_bounds-path-i-3
offset_bounds-path-i-3 c = omega (arith, path_count c.args.path.now, c.requires)

pub bounds-path-i-3 : goal.bounds-path-i-3
bounds-path-i-3 c = omega (arith, path_count c.args.path.now, c.requires)

pub returns : goal.returns
returns c =
    vertex_read c.args.path.now c.args.k c.from.result c.from-2.result c.from-3.result c.requires
    (wide_read (record { sfits = c.from.type_inv }) (record { sfits = search rules }) c.from.ensures)
    (wide_read (record { sfits = c.from-2.type_inv }) (record { sfits = search rules }) c.from-2.ensures)
    (wide_read (record { sfits = c.from-3.type_inv }) (record { sfits = search rules }) c.from-3.ensures)
