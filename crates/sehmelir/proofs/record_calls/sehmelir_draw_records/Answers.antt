-- `sehmelir::record_calls::sehmelir_draw_records` meets its contract: the last own numbers have room for the most that are wanted. Assumes nothing.
use Rattle.std.proofs.Common.{arith, length}
use Rattle.record_paths.proofs.WantedRecords.{wants}
use Rattle.sehmelir.proofs.record_calls.sehmelir_draw_records.Goals as goal

pub draw_by-requires-2 : goal.draw_by-requires-2
draw_by-requires-2 c = (c.wanted-m.ensures, omega (arith, c.wanted-m.ensures, (wants (length c.args.path.now) c.args.grade).most))
