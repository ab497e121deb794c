-- `chunk_table::table::Table::has_key` meets its contract: each return is a case of `holds_key`. Assumes nothing.
use mathlib.Core.Path.{sym, ◌∙◌}
use Rattle.chunk_table.proofs.SoundTables.{holds_empty, holds_used}
use Rattle.chunk_table.proofs.table.Table.has_key.Goals as goal

pub returns-then-is_used : goal.returns-then-is_used
returns-then-is_used c = rw c.word.ensures.0 (holds_used _ _ _ (sym c.is_used.ensures ∙ c.if-is_used.true))

pub returns-else-is_used : goal.returns-else-is_used
returns-else-is_used c = c.if-is_used.false ∙ holds_empty _ _ _ (sym c.is_used.ensures ∙ c.if-is_used.false)
