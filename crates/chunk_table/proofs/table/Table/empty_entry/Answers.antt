-- `chunk_table::table::Table::empty_entry` meets its contract: the first of them; where none was found, there is none. Assumes nothing.
use mathlib.Core.Path.{sym, ◌∙◌}
use native.Mathlib.Omega.{arith}
use Rattle.chunk_table.proofs.Looked.{empty_found, empty_past}
use Rattle.chunk_table.proofs.table.Table.empty_entry.Goals as goal

pub returns-then-not-is_used : goal.returns-then-not-is_used
returns-then-not-is_used c = (empty_found _ c.args.self.now.counted _ (omega arith) c.loop-i.invariant (sym c.is_used.ensures ∙ c.if-not-is_used.true), omega arith)

pub returns : goal.returns
returns c = empty_past _ c.args.self.now.counted (λ k h. c.loop-i.invariant k (omega arith))
