-- `oldest::exporting::I32Lent::vertex` meets its contract: the vertex is written, or stops at a number. Assumes nothing.
use Rattle.std.proofs.Common.{pos, arith, w32, rules}
use mir.Facts.{to_z-of_z}
use Rattle.oldest.specs.Calls.{coordinate_out, width_out}
use Rattle.oldest.proofs.Back.{coordinate_some, coordinate_not, width_some, width_not}
use Rattle.oldest.proofs.Vertices.{three_at, stops_first, stops_second, stops_third, takes_three}
use Rattle.oldest.proofs.exporting.I32Lent.vertex.Goals as goal

pub returns-in_default : goal.returns-in_default
returns-in_default c =
    rw (three_at coordinate_out width_out (pos 0) c.args.numbers.now c.args.at c.requires.0)
    (stops_first _ _ _ (coordinate_not (to_z-of_z {w = w32} (record { sfits = search rules })) c.coordinate_back.ensures c.in_default.is), omega arith)

pub returns-in_default-coordinate_back : goal.returns-in_default-coordinate_back
returns-in_default-coordinate_back c =
    rw (three_at coordinate_out width_out (pos 0) c.args.numbers.now c.args.at c.requires.0) (
      stops_second _ _ _
          (coordinate_some (to_z-of_z {w = w32} (record { sfits = search rules })) c.coordinate_back.ensures c.in-Ok.is)
          (coordinate_not (to_z-of_z {w = w32} (record { sfits = search rules })) c.coordinate_back-2.ensures c.in_default-coordinate_back.is),
      omega arith,
    )

pub returns-in_default-width_back : goal.returns-in_default-width_back
returns-in_default-width_back c =
    rw (three_at coordinate_out width_out (pos 0) c.args.numbers.now c.args.at c.requires.0) (
      stops_third _ _ _
          (coordinate_some (to_z-of_z {w = w32} (record { sfits = search rules })) c.coordinate_back.ensures c.in-Ok.is)
          (coordinate_some (to_z-of_z {w = w32} (record { sfits = search rules })) c.coordinate_back-2.ensures c.in-Ok-coordinate_back.is)
          (width_not (to_z-of_z {w = w32} (record { sfits = search rules })) c.width_back.ensures c.in_default-width_back.is),
      omega arith,
    )

pub returns : goal.returns
returns c =
    rw (three_at coordinate_out width_out (pos 0) c.args.numbers.now c.args.at c.requires.0)
    (takes_three _ _ _
    (coordinate_some (to_z-of_z {w = w32} (record { sfits = search rules })) c.coordinate_back.ensures c.in-Ok.is)
    (coordinate_some (to_z-of_z {w = w32} (record { sfits = search rules })) c.coordinate_back-2.ensures c.in-Ok-coordinate_back.is)
    (width_some (to_z-of_z {w = w32} (record { sfits = search rules })) c.width_back.ensures c.in-Ok-width_back.is)
    c.put_three.ensures)
