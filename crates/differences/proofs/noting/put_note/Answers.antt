-- `differences::noting::put_note` meets its contract: nothing where nothing differs, else two numbers. Assumes nothing.
use Rattle.differences.proofs.Notes.{note_none, note_some}
use Rattle.differences.proofs.noting.put_note.Goals as goal

pub returns-then-what-eq0 : goal.returns-then-what-eq0
returns-then-what-eq0 c = note_none c.args.place c.if-what-eq0.true

pub returns : goal.returns
returns c = note_some c.args.place c.if-what-eq0.false c.put_number.ensures c.put_number-2.ensures
