-- `chunks::putting::put_outline` meets its contract: each return is a case of the answer. Assumes nothing.
use mathlib.Core.Path.{sym, ◌∙◌}
use native.Mathlib.Omega.{arith}
use Rattle.chunk_table.specs.Tables.{key_entry, entry_count}
use Rattle.chunk_table.proofs.SoundTables.{sound_table}
use Rattle.chunks.proofs.Answered.{found_some, found_none, put_there, put_full, put_no_room, put_done}
use Rattle.chunks.proofs.Packed.{sorted_of, sorted_entries, sorted_end}
use Rattle.chunks.proofs.Placed.{end_inside}
use Rattle.chunks.proofs.putting.put_outline.Goals as goal

pub returns-then-is_some : goal.returns-then-is_some
returns-then-is_some c =
    let e = c.of-table.ensures in
    let there = found_some (key_entry c.args.c.now c.args.key) (entry_count c.args.c.now) c.of-table.result.entries c.key_entry.result (rw e at c.key_entry.ensures) (sym c.is_some.ensures ∙ c.if-is_some.true) in
    put_there _ _ _ (omega (arith, there, rw e at c.of-table.result.counted))

pub returns-in_default : goal.returns-in_default
returns-in_default c =
    let e = c.of-table.ensures in
    let missing = found_none (key_entry c.args.c.now c.args.key) (entry_count c.args.c.now) c.of-table.result.entries c.key_entry.result (rw e at c.key_entry.ensures) (sym c.is_some.ensures ∙ c.if-is_some.false) in
    put_full _ _ _ missing (rw e at c.of-table.result.counted) (rw e at c.in_default.ensures)

pub packed_end-end-requires-clause-entries : goal.packed_end-end-requires-clause-entries
packed_end-end-requires-clause-entries c =
    let e = c.of-table.ensures in
    sorted_entries (sorted_of c.requires (rw e at c.sort-used.ensures.1)) (rw e at c.of-table.result.counted)

pub packed_end-end-requires-clause-end : goal.packed_end-end-requires-clause-end
packed_end-end-requires-clause-end c =
    let e = c.of-table.ensures in
    let s = sound_table _ c.requires in
    rw e (omega (arith, sorted_end (sorted_of c.requires (rw e at c.sort-used.ensures.1)), end_inside _ s, s.small))

pub overflow_sub-c : goal.overflow_sub-c
overflow_sub-c c =
    let e = c.of-table.ensures in
    let ends = (rw e at c.packed_end-end.ensures) ∙ sorted_end (sorted_of c.requires (rw e at c.sort-used.ensures.1)) in
    omega (arith, ends, end_inside _ (sound_table _ c.requires))

pub returns-then-c-end : goal.returns-then-c-end
returns-then-c-end c =
    let e = c.of-table.ensures in
    let ends = (rw e at c.packed_end-end.ensures) ∙ sorted_end (sorted_of c.requires (rw e at c.sort-used.ensures.1)) in
    let first = rw e at c.in-Some.ensures.0 in
    let counted = rw e at c.of-table.result.counted in
    let missing = found_none (key_entry c.args.c.now c.args.key) (entry_count c.args.c.now) c.of-table.result.entries c.key_entry.result (rw e at c.key_entry.ensures) (sym c.is_some.ensures ∙ c.if-is_some.false) in
    put_no_room _ _ _ missing (omega (arith, first, counted, c.in-Some.ensures.1)) (omega (arith, ends, end_inside _ (sound_table _ c.requires)))

pub put_in-requires-clause-room : goal.put_in-requires-clause-room
put_in-requires-clause-room c =
    let e = c.of-table.ensures in
    let ends = (rw e at c.packed_end-end.ensures) ∙ sorted_end (sorted_of c.requires (rw e at c.sort-used.ensures.1)) in
    omega (arith, ends, end_inside _ (sound_table _ c.requires))

pub returns : goal.returns
returns c =
    let e = c.of-table.ensures in
    let ends = (rw e at c.packed_end-end.ensures) ∙ sorted_end (sorted_of c.requires (rw e at c.sort-used.ensures.1)) in
    let first = rw e at c.in-Some.ensures.0 in
    let counted = rw e at c.of-table.result.counted in
    let missing = found_none (key_entry c.args.c.now c.args.key) (entry_count c.args.c.now) c.of-table.result.entries c.key_entry.result (rw e at c.key_entry.ensures) (sym c.is_some.ensures ∙ c.if-is_some.false) in
    put_done _ _ _ missing (omega (arith, first, counted, c.in-Some.ensures.1)) (omega (arith, ends, end_inside _ (sound_table _ c.requires))) c.put_in.ensures
