-- `contacts::sections::trend` meets its contract: the order of the radii tells the trend. Assumes nothing.
use mathlib.Core.Path.{◌∙◌, ap, sym}
use Rattle.contacts.proofs.Steps.{trend_in, trend_is}
use Rattle.contacts.proofs.sections.trend.Goals as goal

pub returns-in-Greater : goal.returns-in-Greater
returns-in-Greater c = ap trend_in (sym c.in-Greater.is) ∙ trend_is _ _ c.cmp.ensures

pub returns-in-Equal : goal.returns-in-Equal
returns-in-Equal c = ap trend_in (sym c.in-Equal.is) ∙ trend_is _ _ c.cmp.ensures

pub returns-in-Less : goal.returns-in-Less
returns-in-Less c = ap trend_in (sym c.in-Less.is) ∙ trend_is _ _ c.cmp.ensures
