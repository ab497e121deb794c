-- `oldest::taking::vertex_taken` meets its contract: each way out is a law of proofs/Vertices.antt. Assumes nothing.
use Rattle.std.proofs.Common.{w32, rules}
use mir.Facts.{to_z-of_z}
use Rattle.oldest.proofs.Vertices.{x_not, y_not, width_not, vertex_is}
use Rattle.oldest.proofs.taking.vertex_taken.Goals as goal

pub returns-in-Err : goal.returns-in-Err
returns-in-Err c = x_not c.args.v c.in-Err.ensures

pub returns-in-Err-coordinate : goal.returns-in-Err-coordinate
returns-in-Err-coordinate c = y_not c.args.v c.in-Ok.ensures c.in-Err-coordinate.ensures

pub returns-in-Err-width : goal.returns-in-Err-width
returns-in-Err-width c = width_not c.args.v c.in-Ok.ensures c.in-Ok-coordinate.ensures c.in-Err-width.ensures

pub returns-in-Ok-width : goal.returns-in-Ok-width
returns-in-Ok-width c =
    rw (to_z-of_z {w = w32} {z = c.in-Ok.x} (search rules), to_z-of_z {w = w32} {z = c.in-Ok-coordinate.y} (search rules), to_z-of_z {w = w32} {z = c.in-Ok-width.radius} (search rules))
    (vertex_is c.args.v c.in-Ok.ensures c.in-Ok-coordinate.ensures c.in-Ok-width.ensures)
