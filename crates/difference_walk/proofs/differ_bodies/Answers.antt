-- `difference_walk::differ_bodies` meets its contract: the first body has no edges, and from the first vertex on the walk gives the rest. Assumes nothing.
use mathlib.Core.Path.{refl, ◌∙◌}
use native.Mathlib.Omega.{arith}
use Rattle.runs.proofs.Written.{written-length}
use Rattle.plane.proofs.Directions.{step_unit}
use Rattle.paths.specs.Paths.{path_of}
use Rattle.paths.proofs.PathWalk.{some}
use Rattle.difference_walk.proofs.BodyByBody.{base_small, second-at, none_found, all_found, start_walk, rest_due, rest_few, none-due}
use borrow.Author.Rules.{rules}
use Rattle.differences.proofs.Fronted.{fronted}
use Rattle.difference_walk.proofs.differ_bodies.Goals as goal

pub returns-then-front-eq0 : goal.returns-then-front-eq0
returns-then-front-eq0 c = record { due = none-due c.args.front.now.grade (path_of c.args.path.now) (omega (arith, c.requires.0, c.if-front-eq0.true)); found = none_found c.args.front.now.grade _ (path_of c.args.path.now) _ _ (fronted c.args.front.now) c.table_end-base.ensures c.old_count-old.ensures c.difference-first.ensures refl (omega (arith, c.requires.0, c.if-front-eq0.true)) c.if-front-eq0.true }

pub overflow_add-at : goal.overflow_add-at
overflow_add-at c = omega (arith, base_small (fronted c.args.front.now) c.table_end-base.ensures, c.old_count-old.type_inv)

pub differ_from-requires : goal.differ_from-requires
differ_from-requires c =
    let h = some _ c.if-front-eq0.false in record { vertices = (c.requires.0, h, c.requires.1.inside); unit_long = step_unit _ c.step.ensures; around = start_walk (path_of c.args.path.now) (omega (arith, c.requires.0, some _ c.if-front-eq0.false)) c.vertex.ensures c.new-walk.ensures c.requires.1.inside; own_room = (c.requires.2, search rules); first_body = (second-at (fronted c.args.front.now) c.table_end-base.ensures c.old_count-old.ensures, omega (arith, base_small (fronted c.args.front.now) c.table_end-base.ensures, c.old_count-old.type_inv), refl); few_edges = rest_few (path_of c.args.path.now) (omega (arith, c.requires.0, some _ c.if-front-eq0.false)) c.vertex.ensures c.new-walk.ensures c.args.front.now.grade c.step.ensures c.args.front.now.edition c.requires.1.count }

pub shape_of-differing : goal.shape_of-differing
shape_of-differing c = omega (arith, written-length (all_found c.args.front.now.grade _ (path_of c.args.path.now) c.args.differing.now _ (fronted c.args.front.now) c.table_end-base.ensures c.old_count-old.ensures c.difference-first.ensures refl (omega (arith, c.requires.0, some _ c.if-front-eq0.false)) c.vertex.ensures c.new-walk.ensures c.step.ensures c.differ_from.ensures.found))

pub returns : goal.returns
returns c = record { due = c.differ_from.ensures.due ∙ rest_due (path_of c.args.path.now) (omega (arith, c.requires.0, some _ c.if-front-eq0.false)) c.vertex.ensures c.new-walk.ensures c.args.front.now.grade c.step.ensures; found = all_found c.args.front.now.grade _ (path_of c.args.path.now) _ _ (fronted c.args.front.now) c.table_end-base.ensures c.old_count-old.ensures c.difference-first.ensures refl (omega (arith, c.requires.0, some _ c.if-front-eq0.false)) c.vertex.ensures c.new-walk.ensures c.step.ensures c.differ_from.ensures.found }
