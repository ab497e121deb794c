-- `record_paths::check_count` meets its contract: one law for each outcome of its tests. Assumes nothing.
use Rattle.record_paths.proofs.Counted.{low_grade, high_grade, many, few}
use Rattle.record_paths.proofs.check_count.Goals as goal

pub returns-then-grade-lt2 : goal.returns-then-grade-lt2
returns-then-grade-lt2 c = low_grade _ _ c.if-grade-lt2.true

pub returns-then-grade-gt8 : goal.returns-then-grade-gt8
returns-then-grade-gt8 c = high_grade _ _ c.if-grade-lt2.false c.if-grade-gt8.true

pub returns-then-n-gt4096 : goal.returns-then-n-gt4096
returns-then-n-gt4096 c = many _ _ c.if-grade-lt2.false c.if-grade-gt8.false c.if-n-gt4096.true

pub returns : goal.returns
returns c = few _ _ c.if-grade-lt2.false c.if-grade-gt8.false c.if-n-gt4096.false
