-- `outline::Edition::entry_bytes` meets its contract: by the edition. Assumes nothing.
use mathlib.Core.Path.{sym, ap}
use Rattle.outline.specs.Layout.{stroke_bytes, stroke_words, count_place}
use Rattle.outline.proofs.Edition.entry_bytes.Goals as goal

pub returns-in-First : goal.returns-in-First
unfolding stroke_bytes stroke_words count_place
returns-in-First c = sym (ap stroke_bytes c.in-First.is)

pub returns-in-Second : goal.returns-in-Second
unfolding stroke_bytes stroke_words count_place
returns-in-Second c = sym (ap stroke_bytes c.in-Second.is)
