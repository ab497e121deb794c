-- `chunk_table::table::Table::read` meets its contract: each test that fails is a way to be damaged. Assumes nothing.
use mathlib.Core.Path.{sym}
use native.Mathlib.Omega.{arith}
use Rattle.chunk_table.proofs.SoundTables.{damaged_long, damaged_short, damaged_many, damaged_past}
use Rattle.chunk_table.proofs.table.Table.read.Goals as goal

pub returns-then-bytes-gt-MOST_BYTES : goal.returns-then-bytes-gt-MOST_BYTES
returns-then-bytes-gt-MOST_BYTES c = sym (damaged_long _ (omega arith))

pub returns-then-bytes-lt-TABLE_HEAD : goal.returns-then-bytes-lt-TABLE_HEAD
returns-then-bytes-lt-TABLE_HEAD c = sym (damaged_short _ (omega arith) (omega arith))

pub returns-then-entries-gt-MOST_ENTRIES : goal.returns-then-entries-gt-MOST_ENTRIES
returns-then-entries-gt-MOST_ENTRIES c = sym (damaged_many _ (omega arith) (omega arith) (omega arith))

pub returns-then-bytes-entries : goal.returns-then-bytes-entries
returns-then-bytes-entries c = sym (damaged_past _ (omega arith) (omega arith) (omega arith) (omega arith))
