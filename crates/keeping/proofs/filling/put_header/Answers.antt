-- `keeping::filling::put_header` meets its contract: its five words are put one after another. Assumes nothing.
use mathlib.Core.List.{[]}
use mathlib.Core.List.{◌∷◌}
use mathlib.Core.Path.{sym, ap}
use Prim.Native.Nat.{ℕ}
use Rattle.runs.proofs.Laws.{runs_as}
use native.Mathlib.Omega.{arith}
use Rattle.words.proofs.OneWord.{word_room}
use Rattle.outline.proofs.Parts.{word_end, header_run, stroke_style}
use Rattle.outline.specs.declared.Form.TheVariants.{Stroke}
use Rattle.keeping.proofs.filling.put_header.Goals as goal

pub put_word-a-requires : goal.put_word-a-requires
put_word-a-requires c = word_room _ (omega arith)

pub put_word-b-requires : goal.put_word-b-requires
put_word-b-requires c = word_room _ (omega (arith, word_end c.put_word-a.ensures))

pub put_word-c-requires : goal.put_word-c-requires
put_word-c-requires c = word_room _ (omega (arith, word_end c.put_word-a.ensures, word_end c.put_word-b.ensures))

pub put_word-d-requires : goal.put_word-d-requires
put_word-d-requires c = word_room _ (omega (arith, word_end c.put_word-a.ensures, word_end c.put_word-b.ensures, word_end c.put_word-c.ensures))

pub put_word-requires : goal.put_word-requires
put_word-requires c = word_room _ (omega (arith, word_end c.put_word-a.ensures, word_end c.put_word-b.ensures, word_end c.put_word-c.ensures, word_end c.put_word-d.ensures))

pub returns : goal.returns
returns c = header_run (Stroke c.args.edition) (runs_as (ap (λ (k : ℕ). k ∷ []) (sym c.from.ensures)) c.put_word-a.ensures) c.put_word-b.ensures c.put_word-c.ensures c.put_word-d.ensures c.put_word.ensures (stroke_style c.args.edition)
