-- `heading::heads::read_edition` meets its contract: by each outcome of its tests. Assumes nothing.
use Rattle.heading.proofs.HeadRows.{edition_short, edition_first, edition_second, edition_other}
use Rattle.heading.proofs.heads.read_edition.Goals as goal

pub returns-then-s-lt-LEAST : goal.returns-then-s-lt-LEAST
returns-then-s-lt-LEAST c = edition_short _ c.if-s-lt-LEAST.true

pub returns-then-edition-eq-FIRST_EDITION : goal.returns-then-edition-eq-FIRST_EDITION
returns-then-edition-eq-FIRST_EDITION c = edition_first _ c.if-s-lt-LEAST.false c.word_at-edition.ensures c.if-edition-eq-FIRST_EDITION.true

pub returns-then-edition-eq-SECOND_EDITION : goal.returns-then-edition-eq-SECOND_EDITION
returns-then-edition-eq-SECOND_EDITION c = edition_second _ c.if-s-lt-LEAST.false c.word_at-edition.ensures c.if-edition-eq-SECOND_EDITION.true

pub returns-else-edition-eq-SECOND_EDITION : goal.returns-else-edition-eq-SECOND_EDITION
returns-else-edition-eq-SECOND_EDITION c = edition_other _ c.if-s-lt-LEAST.false c.word_at-edition.ensures c.if-edition-eq-FIRST_EDITION.false c.if-edition-eq-SECOND_EDITION.false
