-- `replies::path_rows::check_path` meets its contract: one law for each outcome of its tests. Assumes nothing.
use mathlib.Core.Path.{sym}
use native.Mathlib.Omega.{arith}
use Rattle.paths.proofs.PathWalk.{path_count}
use Rattle.replies.proofs.PathChecks.{not_triples, grade_low, grade_high, too_many, outside, passes}
use Rattle.replies.proofs.path_rows.check_path.Goals as goal

pub returns-then-m-ne0 : goal.returns-then-m-ne0
returns-then-m-ne0 c = not_triples c.args.path.now c.args.grade c.if-m-ne0.true

pub returns-then-grade-lt2 : goal.returns-then-grade-lt2
returns-then-grade-lt2 c = grade_low c.args.path.now c.args.grade (omega (arith, c.if-m-ne0.false)) c.if-grade-lt2.true

pub returns-then-grade-gt8 : goal.returns-then-grade-gt8
returns-then-grade-gt8 c = grade_high c.args.path.now c.args.grade (omega (arith, c.if-m-ne0.false)) c.if-grade-lt2.false c.if-grade-gt8.true

pub returns-then-n-gt4096 : goal.returns-then-n-gt4096
returns-then-n-gt4096 c = too_many c.args.path.now c.args.grade (omega (arith, c.if-m-ne0.false)) c.if-grade-lt2.false c.if-grade-gt8.false c.if-n-gt4096.true

pub first_outside-bad-requires : goal.first_outside-bad-requires
first_outside-bad-requires c = sym (path_count c.args.path.now)

pub returns-then-bad-n : goal.returns-then-bad-n
returns-then-bad-n c = outside c.args.path.now c.args.grade (omega (arith, c.if-m-ne0.false)) c.if-grade-lt2.false c.if-grade-gt8.false c.if-n-gt4096.false c.first_outside-bad.ensures c.if-bad-n.true

pub returns : goal.returns
returns c = passes c.args.path.now c.args.grade (omega (arith, c.if-m-ne0.false)) c.if-grade-lt2.false c.if-grade-gt8.false c.if-n-gt4096.false c.first_outside-bad.ensures c.if-bad-n.false
