-- `chunk_table::table::Table::key_entry` meets its contract: the first of them; where none was found, there is none. Assumes nothing.
use mathlib.Core.Path.{sym, ◌∙◌}
use native.Mathlib.Omega.{arith}
use Rattle.chunk_table.proofs.Looked.{key_found, key_past}
use Rattle.chunk_table.proofs.table.Table.key_entry.Goals as goal

pub returns-then-has_key : goal.returns-then-has_key
returns-then-has_key c = (key_found _ c.args.self.now.counted _ _ (omega arith) c.loop-i.invariant (sym c.has_key.ensures ∙ c.if-has_key.true), omega arith)

pub returns : goal.returns
returns c = key_past _ c.args.self.now.counted _ (λ k h. c.loop-i.invariant k (omega arith))
