-- `sehmelir::record_calls::sehmelir_keep_records` meets its contract: the last own numbers have room for the most that are wanted. Assumes nothing.
use Rattle.std.proofs.Common.{arith, length}
use Rattle.record_paths.proofs.WantedRecords.{wants}
use Rattle.sehmelir.proofs.record_calls.sehmelir_keep_records.Goals as goal

pub keep_by-requires-2 : goal.keep_by-requires-2
keep_by-requires-2 c = (c.wanted-m.ensures, omega (arith, c.wanted-m.ensures, (wants (length c.args.path.now) c.args.grade).most))
