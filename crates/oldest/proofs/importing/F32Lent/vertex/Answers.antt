-- `oldest::importing::F32Lent::vertex` meets its contract: the vertex is taken, or stops at a number. Assumes nothing.
use Rattle.std.proofs.Common.{sym, ◌∙◌, arith, w32, rules}
use lib.Ieee.{nan}
use mir.Facts.{to_z-of_z}
use Rattle.oldest.specs.Calls.{coordinate_in, radius_in}
use Rattle.oldest.proofs.Vertices.{three_at, vertex_stops, vertex_takes, vertex_place}
use Rattle.oldest.proofs.importing.F32Lent.vertex.Goals as goal

pub overflow_add-result : goal.overflow_add-result
overflow_add-result c = omega (arith, vertex_place _ _ (sym c.vertex_taken.ensures ∙ c.in-Err.is), c.requires.0, c.requires.1)

pub returns-in-Err : goal.returns-in-Err
returns-in-Err c =
    rw (three_at coordinate_in radius_in nan c.args.numbers.now c.args.at c.requires.0)
    (vertex_stops _ _ (sym c.vertex_taken.ensures ∙ c.in-Err.is), omega (arith, vertex_place _ _ (sym c.vertex_taken.ensures ∙ c.in-Err.is)))

pub returns-in-Ok : goal.returns-in-Ok
returns-in-Ok c =
    let v = c.in-Ok in
    let put = rw (to_z-of_z {w = w32} {z = v.whole.x} (search rules), to_z-of_z {w = w32} {z = v.whole.y} (search rules), to_z-of_z {w = w32} {z = v.whole.radius} (search rules)) at c.put_three.ensures in
    rw (three_at coordinate_in radius_in nan c.args.numbers.now c.args.at c.requires.0)
    (vertex_takes _ v.whole (sym c.vertex_taken.ensures ∙ v.is) put)
