-- `comparing::compare::same_entry` meets its contract: the words are compared in their order. Assumes nothing.
use native.Mathlib.Omega.{arith}
use Rattle.runs.proofs.Laws.{runs_to}
use Rattle.words.proofs.OneWord.{word_room}
use Rattle.outline.proofs.FormLengths.{entry_most}
use Rattle.outline.proofs.Parts.{post_bytes, entry_run}
use Rattle.comparing.proofs.compare.same_entry.Goals as goal

pub same_word-a-requires : goal.same_word-a-requires
same_word-a-requires c = word_room _ (omega (arith, c.requires.edition_bound, (entry_most c.args.edition).0))

pub overflow_add-at : goal.overflow_add-at
overflow_add-at c = omega (arith, c.requires.edition_bound, (entry_most c.args.edition).0)

pub same_word-b-requires : goal.same_word-b-requires
same_word-b-requires c = word_room _ (omega (arith, c.requires.edition_bound, (entry_most c.args.edition).0))

pub overflow_add-at-2 : goal.overflow_add-at-2
overflow_add-at-2 c = omega (arith, c.requires.edition_bound, (entry_most c.args.edition).0)

pub same_word-c-requires : goal.same_word-c-requires
same_word-c-requires c = word_room _ (omega (arith, c.requires.edition_bound, (entry_most c.args.edition).0))

pub overflow_add-at-3 : goal.overflow_add-at-3
overflow_add-at-3 c = omega (arith, c.requires.edition_bound, (entry_most c.args.edition).0)

pub same_post-d-requires : goal.same_post-d-requires
same_post-d-requires c = omega (arith, c.requires.edition_bound, (entry_most c.args.edition).0)

pub overflow_sub-last : goal.overflow_sub-last
overflow_sub-last c = omega (arith, c.entry_bytes-last.ensures, (entry_most c.args.edition).0)

pub same_word-requires : goal.same_word-requires
same_word-requires c = word_room _ (omega (arith, c.requires.edition_bound, c.entry_bytes-last.ensures, (entry_most c.args.edition).0))

pub returns : goal.returns
returns c = runs_to (omega (arith, c.entry_bytes-last.ensures, (entry_most c.args.edition).0)) (entry_run c.args.edition c.args.v c.args.post c.args.count c.requires.inside c.wide_bits.ensures c.wide_bits-2.ensures c.wide_bits-3.ensures c.same_word-a.ensures (runs_to (omega arith) c.same_word-b.ensures) (runs_to (omega arith) c.same_word-c.ensures) (runs_to (omega (arith, c.entry_bytes-last.ensures, post_bytes c.args.edition c.args.post)) c.same_post-d.ensures) c.same_word.ensures)
