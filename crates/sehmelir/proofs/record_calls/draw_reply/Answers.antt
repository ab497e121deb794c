-- `sehmelir::record_calls::draw_reply` meets its contract: grade and count first, then the call over the numbers gathered. Assumes nothing.
use native.Mathlib.Omega.{arith}
use Rattle.sehmelir.proofs.RecordTold.{draw_refused, draw_passed}
use Rattle.sehmelir.proofs.record_calls.draw_reply.Goals as goal

pub numbers_of-requires : goal.numbers_of-requires
numbers_of-requires c = omega (arith, c.check_count.ensures.passed _ c.in-Ok.is)

pub slice_bounds-sehmelir_draw-end : goal.slice_bounds-sehmelir_draw-end
slice_bounds-sehmelir_draw-end c = omega (arith, c.check_count.ensures.passed _ c.in-Ok.is, c.numbers_of.ensures, c.requires)

pub returns-in-Err : goal.returns-in-Err
returns-in-Err c = draw_refused _ c.check_count.ensures _ c.in-Err.is c.from.ensures

pub returns-in-Ok : goal.returns-in-Ok
returns-in-Ok c = draw_passed _ c.check_count.ensures c.in-Ok.is c.numbers_of.ensures c.sehmelir_draw.ensures
