-- `heading::heads::read_count` meets its contract: by each outcome of its test. Assumes nothing.
use Rattle.heading.proofs.HeadRows.{count_many, count_few}
use Rattle.heading.proofs.heads.read_count.Goals as goal

pub returns-then-n-gt-MOST_VERTICES : goal.returns-then-n-gt-MOST_VERTICES
returns-then-n-gt-MOST_VERTICES c = count_many _ c.word_at-n.ensures c.if-n-gt-MOST_VERTICES.true

pub returns : goal.returns
returns c = count_few _ c.word_at-n.ensures c.if-n-gt-MOST_VERTICES.false
