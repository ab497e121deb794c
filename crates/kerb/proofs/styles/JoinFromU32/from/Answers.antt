-- `kerb::Join::from` meets its contract: 0 is a bevel. Assumes nothing.
use borrow.Author.Tests.{eq-eqb, ne_eqb}
use Rattle.kerb.specs.Styles.{join_numbered}
use Rattle.kerb.proofs.styles.JoinFromU32.from.Goals as goal

pub returns-then-join-eq0 : goal.returns-then-join-eq0
unfolding join_numbered
returns-then-join-eq0 c = rw (eq-eqb _ _ c.if-join-eq0.true, join_numbered)

pub returns-else-join-eq0 : goal.returns-else-join-eq0
unfolding join_numbered
returns-else-join-eq0 c = rw (ne_eqb _ _ c.if-join-eq0.false, join_numbered)
