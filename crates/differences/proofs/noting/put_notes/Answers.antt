-- `differences::noting::put_notes` meets its contract: what is left of the notes is put on, place by place. Assumes nothing.
use mathlib.Core.Path.{refl}
use Rattle.differences.proofs.Notes.{notes_step, notes_done}
use Rattle.differences.proofs.noting.put_notes.Goals as goal

pub loop-place-preserved : goal.loop-place-preserved
loop-place-preserved c = notes_step c.loop-place.invariant c.loop-place-test.true refl c.put_note-at.ensures

pub returns : goal.returns
returns c = notes_done c.loop-place.invariant c.loop-place-test.false
