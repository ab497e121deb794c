-- `outline::layout::U32FromEdition::from` meets its contract: by the edition. Assumes nothing.
use mathlib.Core.Path.{sym, ap}
use Rattle.outline.specs.Layout.{edition_number}
use Rattle.outline.proofs.layout.U32FromEdition.from.Goals as goal

pub returns-in-First : goal.returns-in-First
unfolding edition_number
returns-in-First c = sym (ap edition_number c.in-First.is)

pub returns-in-Second : goal.returns-in-Second
unfolding edition_number
returns-in-Second c = sym (ap edition_number c.in-Second.is)
