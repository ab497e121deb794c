-- `kerb_keeping::filling::put_header` meets its contract: its words are put one after another. Assumes nothing.
use native.Mathlib.Omega.{arith}
use Rattle.runs.proofs.Written.{written-length}
use Rattle.words.proofs.OneWord.{word_room}
use Rattle.outline.specs.declared.Form.TheVariants.{Kerb}
use Rattle.outline.proofs.Parts.{word_end, coordinate_fits, radius_size, header_run, style_run}
use Rattle.kerb_keeping.proofs.filling.put_header.Goals as goal

pub put_word-a-requires : goal.put_word-a-requires
put_word-a-requires c = word_room _ (omega arith)

pub put_word-b-requires : goal.put_word-b-requires
put_word-b-requires c = word_room _ (omega (arith, word_end c.put_word-a.ensures))

pub put_word-c-requires : goal.put_word-c-requires
put_word-c-requires c = word_room _ (omega (arith, word_end c.put_word-a.ensures, word_end c.put_word-b.ensures))

pub put_word-d-requires : goal.put_word-d-requires
put_word-d-requires c = word_room _ (omega (arith, word_end c.put_word-a.ensures, word_end c.put_word-b.ensures, word_end c.put_word-c.ensures))

pub put_word-e-requires : goal.put_word-e-requires
put_word-e-requires c = word_room _ (omega (arith, word_end c.put_word-a.ensures, word_end c.put_word-b.ensures, word_end c.put_word-c.ensures, word_end c.put_word-d.ensures))

pub wide_bits-requires : goal.wide_bits-requires
wide_bits-requires c = coordinate_fits (radius_size c.requires)

pub put_word-f-requires : goal.put_word-f-requires
put_word-f-requires c = word_room _ (omega (arith, word_end c.put_word-a.ensures, word_end c.put_word-b.ensures, word_end c.put_word-c.ensures, word_end c.put_word-d.ensures, word_end c.put_word-e.ensures))

pub put_word-g-requires : goal.put_word-g-requires
put_word-g-requires c = word_room _ (omega (arith, word_end c.put_word-a.ensures, word_end c.put_word-b.ensures, word_end c.put_word-c.ensures, word_end c.put_word-d.ensures, word_end c.put_word-e.ensures, word_end c.put_word-f.ensures))

pub put_word-requires : goal.put_word-requires
put_word-requires c = word_room _ (omega (arith, word_end c.put_word-a.ensures, word_end c.put_word-b.ensures, word_end c.put_word-c.ensures, word_end c.put_word-d.ensures, word_end c.put_word-e.ensures, word_end c.put_word-f.ensures, word_end c.put_word-g.ensures))

pub returns : goal.returns
returns c = header_run (Kerb c.args.y) c.put_word-a.ensures c.put_word-b.ensures c.put_word-c.ensures c.put_word-d.ensures c.put_word-e.ensures (style_run c.args.y c.requires c.wide_bits.ensures c.join_word.ensures c.closed_word.ensures c.put_word-f.ensures c.put_word-g.ensures c.put_word.ensures)

pub shape_of-s : goal.shape_of-s
shape_of-s c = written-length (returns c)
