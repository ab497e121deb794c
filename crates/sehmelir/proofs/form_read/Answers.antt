-- `sehmelir::form_read` meets its contract: each answer has its form. Assumes nothing.
use mathlib.Core.Path.{sym, ap}
use Rattle.reading.specs.Reading.{form_of_read}
use Rattle.sehmelir.proofs.form_read.Goals as goal

pub returns-in-Ok : goal.returns-in-Ok
unfolding form_of_read
returns-in-Ok c = sym (ap form_of_read c.in-Ok.is)

pub returns-in-Err : goal.returns-in-Err
unfolding form_of_read
returns-in-Err c = sym (ap form_of_read c.in-Err.is)
