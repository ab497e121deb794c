-- `chunk_table::damage::damaged` meets its contract: what passes in order of offset and in order of key is sound. Assumes nothing.
use mathlib.Core.Path.{refl}
use native.Mathlib.Omega.{arith}
use Rattle.chunk_table.proofs.Checked.{checked_not, checked_so}
use Rattle.chunk_table.proofs.Ordering.{held_entries, held_all}
use Rattle.chunk_table.proofs.damage.damaged.Goals as goal

pub strung-requires : goal.strung-requires
strung-requires c = held_entries _ 8 c.in-Some.table.entries _ (rw (c.column.ensures.0, c.column.ensures.1, c.column.ensures.2) at c.sort_on-used.ensures.1) (omega arith)

pub returns-then-not-strung : goal.returns-then-not-strung
returns-then-not-strung c = rw c.in-Some.ensures at (checked_not c.in-Some.table.bytes.now (held_all _ (rw (c.column.ensures.0, c.column.ensures.1, c.column.ensures.2) at c.sort_on-used.ensures.1) c.in-Some.table.counted) refl c.strung.ensures c.if-not-strung.true)

pub twice-requires : goal.twice-requires
twice-requires c = held_entries _ 4 c.in-Some.table.entries _ (rw (c.column-2.ensures.0, c.column-2.ensures.1, c.column-2.ensures.2) at c.sort_on-used-2.ensures.1) (omega arith)

pub returns : goal.returns
returns c = rw c.in-Some.ensures at (checked_so c.in-Some.table.bytes.now c.in-Some.table.small (omega (arith, c.in-Some.table.inside)) (omega (arith, c.in-Some.table.few, c.in-Some.table.counted)) (omega (arith, c.in-Some.table.inside, c.in-Some.table.counted))
    (held_all _ (rw (c.column.ensures.0, c.column.ensures.1, c.column.ensures.2) at c.sort_on-used.ensures.1) c.in-Some.table.counted) refl c.strung.ensures c.if-not-strung.false c.in-Some.table.counted (rw (c.column-2.ensures.0, c.column-2.ensures.1, c.column-2.ensures.2) at c.sort_on-used-2.ensures.1) c.twice.ensures)
