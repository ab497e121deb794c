-- `heading::heads::read_grade` meets its contract: by the outcomes of its tests. Assumes nothing.
use Rattle.heading.proofs.HeadRows.{grade_unknown, grade_known}
use Rattle.heading.proofs.heads.read_grade.Goals as goal

pub returns-then-grade-lt-LEAST_GRADE : goal.returns-then-grade-lt-LEAST_GRADE
returns-then-grade-lt-LEAST_GRADE c = grade_unknown _ c.word_at-grade.ensures c.then-grade-lt-LEAST_GRADE.either

pub returns : goal.returns
returns c = grade_known _ c.word_at-grade.ensures c.if-grade-lt-LEAST_GRADE.false c.if-grade-gt-MOST_GRADE.false
