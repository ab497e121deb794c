-- `replies::path_rows::without_edges` meets its contract: the two tests of the row, in its order. Assumes nothing.
use borrow.Author.Tests.{lt-ltb, le-ltb}
use Rattle.replies.specs.Replies.{empty_row}
use Rattle.replies.proofs.path_rows.without_edges.Goals as goal

pub returns-then-n-gt0 : goal.returns-then-n-gt0
unfolding empty_row
returns-then-n-gt0 c = rw (lt-ltb 0 c.args.n c.if-n-gt0.true)

pub returns-else-n-gt0 : goal.returns-else-n-gt0
unfolding empty_row
returns-else-n-gt0 c = rw (le-ltb 0 c.args.n c.if-n-gt0.false)
