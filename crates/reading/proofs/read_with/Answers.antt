-- `reading::read_with` meets its contract: a refusal is that of the shared rows; a store that passed them is read. Assumes nothing.
use Rattle.heading.proofs.Handed.{handed_with}
use Rattle.reading.specs.Reading.{Reads}
use Rattle.reading.proofs.ReadAnswers.{reads_refused}
use Rattle.reading.proofs.read_with.Goals as goal

pub returns-in_err-header : goal.returns-in_err-header
returns-in_err-header c = handed_with (Reads _ _) c.from_residual.ensures.1 (reads_refused _ c.in_err-header.was c.check.ensures)
