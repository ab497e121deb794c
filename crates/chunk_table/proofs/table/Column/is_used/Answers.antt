-- `chunk_table::table::Column::is_used` meets its contract: an entry of length 0 is empty. Assumes nothing.
use Rattle.chunk_table.specs.Tables.{used_at, empty_at}
use Rattle.chunk_table.proofs.table.Column.is_used.Goals as goal

pub returns : goal.returns
unfolding used_at empty_at
returns c = rw (rw c.place.ensures.0 at c.word_of.ensures.0)
