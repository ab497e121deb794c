-- `sehmelir::record_calls::keep_reply` meets its contract: grade and count first, then the numbers and the posts gathered. Assumes nothing.
use native.Mathlib.Omega.{arith}
use Rattle.sehmelir.proofs.RecordTold.{keep_refused, keep_passed}
use Rattle.sehmelir.proofs.record_calls.keep_reply.Goals as goal

pub keep_gathered-requires : goal.keep_gathered-requires
keep_gathered-requires c = (omega (arith, c.check_count.ensures.passed _ c.in-Ok.is, c.requires), omega (arith, c.check_count.ensures.passed _ c.in-Ok.is))

pub returns-in-Err : goal.returns-in-Err
returns-in-Err c = keep_refused _ c.check_count.ensures _ c.in-Err.is c.from-in-Err.ensures

pub returns-in-Ok : goal.returns-in-Ok
returns-in-Ok c = keep_passed _ c.check_count.ensures c.in-Ok.is c.keep_gathered.ensures c.from.ensures
