-- `outline::Edition::entry_words` meets its contract: by the edition. Assumes nothing.
use mathlib.Core.Path.{sym, ap}
use Rattle.outline.specs.Layout.{stroke_words, count_place}
use Rattle.outline.proofs.Edition.entry_words.Goals as goal

pub returns-in-First : goal.returns-in-First
unfolding stroke_words count_place
returns-in-First c = sym (ap stroke_words c.in-First.is)

pub returns-in-Second : goal.returns-in-Second
unfolding stroke_words count_place
returns-in-Second c = sym (ap stroke_words c.in-Second.is)
