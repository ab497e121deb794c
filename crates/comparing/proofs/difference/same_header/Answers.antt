-- `comparing::difference::same_header` meets its contract: its words one after another. Assumes nothing.
use mathlib.Core.List.{[]}
use mathlib.Core.List.{◌∷◌}
use mathlib.Core.Path.{sym, ap}
use native.Mathlib.Omega.{arith}
use Rattle.runs.proofs.Laws.{runs_as}
use Rattle.words.proofs.OneWord.{word_room}
use Rattle.outline.proofs.Parts.{header_run}
use Rattle.comparing.proofs.difference.same_header.Goals as goal

pub same_word-a-requires : goal.same_word-a-requires
same_word-a-requires c = word_room _ (omega arith)

pub same_word-b-requires : goal.same_word-b-requires
same_word-b-requires c = word_room _ (omega arith)

pub same_word-c-requires : goal.same_word-c-requires
same_word-c-requires c = word_room _ (omega arith)

pub same_word-d-requires : goal.same_word-d-requires
same_word-d-requires c = word_room _ (omega arith)

pub same_word-e-requires : goal.same_word-e-requires
same_word-e-requires c = word_room _ (omega arith)

pub returns : goal.returns
returns c = header_run c.args.form (runs_as (ap (λ k. k ∷ []) (sym c.edition_word.ensures)) c.same_word-a.ensures) (runs_as (ap (λ k. k ∷ []) (sym c.kind_word.ensures)) c.same_word-b.ensures) c.same_word-c.ensures c.same_word-d.ensures c.same_word-e.ensures c.same_rest.ensures
