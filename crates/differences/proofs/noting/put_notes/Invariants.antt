-- `differences::noting::put_notes` meets its contract: what is left of the notes is put on, place by place. Assumes nothing.
use Rattle.differences.proofs.Notes.{NotesOn}
use Rattle.differences.proofs.noting.put_notes.Given as goal

abbrev pub invariant-loop-place : goal.invariant-loop-place
invariant-loop-place l = NotesOn l.differing l.initial.list l.list l.place l.at
