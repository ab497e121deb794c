-- `keeping::filling::put_entry` meets its contract: its words are put one after another, each number within the limits by its own. Assumes nothing.
use native.Mathlib.Omega.{arith}
use Rattle.words.proofs.OneWord.{word_room}
use Rattle.outline.proofs.FormLengths.{entry_most}
use Rattle.outline.proofs.Parts.{word_end, post_bytes, entry_room, entry_run}
use Rattle.keeping.proofs.filling.put_entry.Goals as goal

pub put_word-a-requires : goal.put_word-a-requires
put_word-a-requires c = word_room _ (omega (arith, entry_room c.args.edition _ _ _ c.requires.room, (entry_most c.args.edition).0))

pub put_word-b-requires : goal.put_word-b-requires
put_word-b-requires c = word_room _ (omega (arith, entry_room c.args.edition _ _ _ c.requires.room, (entry_most c.args.edition).0, word_end c.put_word-a.ensures))

pub put_word-c-requires : goal.put_word-c-requires
put_word-c-requires c = word_room _ (omega (arith, entry_room c.args.edition _ _ _ c.requires.room, (entry_most c.args.edition).0, word_end c.put_word-a.ensures, word_end c.put_word-b.ensures))

pub put_post-d-requires : goal.put_post-d-requires
put_post-d-requires c = omega (arith, entry_room c.args.edition _ _ _ c.requires.room, (entry_most c.args.edition).0, word_end c.put_word-a.ensures, word_end c.put_word-b.ensures, word_end c.put_word-c.ensures)

pub put_word-requires : goal.put_word-requires
put_word-requires c = word_room _ (omega (arith, post_bytes c.args.edition c.args.post, c.put_post-d.ensures.pos, entry_room c.args.edition _ _ _ c.requires.room, (entry_most c.args.edition).0, word_end c.put_word-a.ensures, word_end c.put_word-b.ensures, word_end c.put_word-c.ensures))

pub returns : goal.returns
returns c = entry_run c.args.edition _ c.args.post _ c.requires.inside c.wide_bits.ensures c.wide_bits-2.ensures c.wide_bits-3.ensures c.put_word-a.ensures c.put_word-b.ensures c.put_word-c.ensures c.put_post-d.ensures c.put_word.ensures
