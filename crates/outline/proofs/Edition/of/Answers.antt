-- `outline::Edition::of` meets its contract: by each outcome of the test. Assumes nothing.
use borrow.Author.Tests.{eq-eqb, ne_eqb}
use Rattle.outline.specs.Stores.{edition_of}
use Rattle.outline.proofs.Edition.of.Goals as goal

pub returns-then-word-eq-SECOND_EDITION : goal.returns-then-word-eq-SECOND_EDITION
unfolding edition_of
returns-then-word-eq-SECOND_EDITION c = rw (eq-eqb _ _ c.if-word-eq-SECOND_EDITION.true, edition_of)

pub returns-else-word-eq-SECOND_EDITION : goal.returns-else-word-eq-SECOND_EDITION
unfolding edition_of
returns-else-word-eq-SECOND_EDITION c = rw (ne_eqb _ _ c.if-word-eq-SECOND_EDITION.false, edition_of)
