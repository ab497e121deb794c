-- `salvaging::fronts::front_rows` meets its contract: each return is the outcome of a row, in the order of the rows. Assumes nothing.
use Rattle.salvaging.proofs.FrontRows.{front_short, front_older, front_newer, front_kind, front_other, stroke_kind_lem, front_past}
use Rattle.salvaging.proofs.fronts.front_rows.Goals as goal
use Rattle.salvaging.proofs.fronts.front_rows.Goals.{then-edition-lt-FIRST_EDITION-via-then-edition-lt-FIRST_EDITION, then-edition-lt-FIRST_EDITION-via-else-edition-lt-FIRST_EDITION+then-edition-gt-SECOND_EDITION}

pub returns-then-s-lt-LEAST : goal.returns-then-s-lt-LEAST
returns-then-s-lt-LEAST c = front_short _ c.if-s-lt-LEAST.true

pub returns-then-edition-lt-FIRST_EDITION : goal.returns-then-edition-lt-FIRST_EDITION
returns-then-edition-lt-FIRST_EDITION c =
    elim c.then-edition-lt-FIRST_EDITION.branch [
      | then-edition-lt-FIRST_EDITION-via-then-edition-lt-FIRST_EDITION w ↦ front_older _ c.if-s-lt-LEAST.false c.word_at-edition.ensures w.if-edition-lt-FIRST_EDITION.true
      | then-edition-lt-FIRST_EDITION-via-else-edition-lt-FIRST_EDITION+then-edition-gt-SECOND_EDITION w ↦ front_newer _ c.if-s-lt-LEAST.false c.word_at-edition.ensures w.if-edition-lt-FIRST_EDITION.false w.if-edition-gt-SECOND_EDITION.true
    ]

pub returns-then-kind-gt-KERB_KIND : goal.returns-then-kind-gt-KERB_KIND
returns-then-kind-gt-KERB_KIND c = front_kind _ c.if-s-lt-LEAST.false c.word_at-edition.ensures c.if-edition-lt-FIRST_EDITION.false c.if-edition-gt-SECOND_EDITION.false c.word_at-kind.ensures c.if-kind-gt-KERB_KIND.true

pub returns-then-kind-eq-KERB_KIND : goal.returns-then-kind-eq-KERB_KIND
returns-then-kind-eq-KERB_KIND c = front_other _ c.if-s-lt-LEAST.false c.word_at-edition.ensures c.if-edition-lt-FIRST_EDITION.false c.if-edition-gt-SECOND_EDITION.false c.word_at-kind.ensures c.if-kind-gt-KERB_KIND.false c.if-kind-eq-KERB_KIND.true

pub table_rows-requires : goal.table_rows-requires
table_rows-requires c = (c.if-s-lt-LEAST.false, stroke_kind_lem _ c.if-s-lt-LEAST.false c.word_at-edition.ensures c.if-edition-lt-FIRST_EDITION.false c.if-edition-gt-SECOND_EDITION.false c.word_at-kind.ensures c.if-kind-gt-KERB_KIND.false c.if-kind-eq-KERB_KIND.false)

pub returns : goal.returns
returns c = front_past _ c.if-s-lt-LEAST.false c.word_at-edition.ensures c.if-edition-lt-FIRST_EDITION.false c.if-edition-gt-SECOND_EDITION.false c.word_at-kind.ensures c.if-kind-gt-KERB_KIND.false c.if-kind-eq-KERB_KIND.false c.table_rows.ensures
