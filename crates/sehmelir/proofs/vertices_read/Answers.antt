-- `sehmelir::vertices_read` meets its contract: each answer has its number, and a path read its grade. Assumes nothing.
use mathlib.Core.Path.{refl, sym, ap}
use Rattle.reading.specs.Reading.{reply_of_read, grade_of_read}
use Rattle.sehmelir.proofs.Told.{graded_as}
use Rattle.sehmelir.proofs.vertices_read.Goals as goal

pub returns-in-Ok : goal.returns-in-Ok
unfolding reply_of_read grade_of_read
returns-in-Ok c =
    graded_as
    (ap reply_of_read (sym c.in-Ok.is))
    (ap grade_of_read (sym c.in-Ok.is))
    (record { reply = refl; number = refl; grade = refl })

pub returns-in-Err : goal.returns-in-Err
unfolding reply_of_read grade_of_read
returns-in-Err c = graded_as (ap reply_of_read (sym c.in-Err.is)) (ap grade_of_read (sym c.in-Err.is)) c.from.ensures
