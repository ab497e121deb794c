-- `kerb_comparing::no_bodies` meets its contract: three words one after another. Assumes nothing.
use mathlib.Core.Path.{refl}
use native.Mathlib.Omega.{arith}
use Rattle.runs.proofs.Laws.{runs_to, runs_then}
use Rattle.words.proofs.OneWord.{word_room}
use Rattle.kerb_comparing.proofs.no_bodies.Goals as goal

pub same_word-a-requires : goal.same_word-a-requires
same_word-a-requires c = word_room _ (omega (arith, c.requires))

pub returns : goal.returns
returns c = record { table = runs_to (omega arith) (runs_then c.same_word-a.ensures (runs_then (runs_to (omega arith) c.same_word-b.ensures) c.same_word-table.ensures)); bodies = refl; end = refl }
