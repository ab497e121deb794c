-- `keeping::filling::fill_step` meets its contract: the walk puts the edges of the step into `own`, from where their count and their words are put. Assumes nothing.
use mathlib.Core.Path.{ap}
use Prim.Native.Nat.{ℕ}
use native.Mathlib.Omega.{arith}
use Rattle.runs.proofs.Laws.{room_as}
use Rattle.paths.proofs.Most.{emitted_most}
use Rattle.outline.specs.Outlines.{entry_of}
use Rattle.outline.proofs.OwnNumbers.{own_room, own_small, own_count, own_words, own_inside}
use Rattle.keeping.proofs.FilledSteps.{step_filled}
use Rattle.keeping.proofs.TwoRuns.{table_room, body_room}
use Rattle.keeping.proofs.filling.fill_step.Goals as goal

pub step-walked-requires : goal.step-walked-requires
step-walked-requires c = record { unit_long = (c.requires.sound.0, c.requires.sound.1, c.requires.sound.2); room = own_room (emitted_most _ _ _) }

pub overflow_cast-walked : goal.overflow_cast-walked
overflow_cast-walked c = omega (arith, own_small (emitted_most _ _ _) c.step-walked.ensures.made)

pub put_entry-table-requires : goal.put_entry-table-requires
put_entry-table-requires c = record { inside = c.requires.sound.2; room = room_as (ap (λ (k : ℕ). entry_of c.args.edition c.args.b c.args.post k) (own_count (emitted_most _ _ _) c.step-walked.ensures.made)) (table_room c.requires.apart) }

pub put_numbers-bodies-requires : goal.put_numbers-bodies-requires
put_numbers-bodies-requires c = record { n_in_bounds = own_inside (emitted_most _ _ _) c.step-walked.ensures.made (c.requires.sound.3.step c.args.f.walk c.args.b); room = room_as (own_words (emitted_most _ _ _) c.step-walked.ensures.made (c.requires.sound.3.step c.args.f.walk c.args.b)) (body_room c.requires.apart) }

pub returns : goal.returns
returns c = step_filled c.args.edition c.args.b c.args.post (c.requires.sound.3.step c.args.f.walk c.args.b) c.step-walked.ensures c.put_entry-table.ensures c.put_numbers-bodies.ensures
