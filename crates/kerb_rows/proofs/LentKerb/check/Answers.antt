-- `kerb_rows::LentKerb::check` meets its contract: one law for each outcome of its tests. Assumes nothing.
use mathlib.Core.Path.{sym}
use native.Mathlib.Omega.{arith}
use Rattle.kerb_paths.proofs.PointsAhead.{point_count}
use Rattle.kerb_rows.proofs.KerbChecks.{odd_count, grade_under, grade_over, style_out, points_over, point_outside, kerb_passes, outside_told}
use Rattle.kerb_rows.proofs.LentKerb.check.Goals as goal

pub returns-then-m-ne0 : goal.returns-then-m-ne0
returns-then-m-ne0 c =
    let a = c.args.self.now in
    odd_count a.points.now a.grade a.radius a.join a.closed c.if-m-ne0.true

pub returns-then-self-lt2 : goal.returns-then-self-lt2
returns-then-self-lt2 c =
    let a = c.args.self.now in
    grade_under a.points.now a.grade a.radius a.join a.closed (omega (arith, c.if-m-ne0.false)) c.if-self-lt2.true

pub returns-then-self-gt8 : goal.returns-then-self-gt8
returns-then-self-gt8 c =
    let a = c.args.self.now in
    grade_over a.points.now a.grade a.radius a.join a.closed (omega (arith, c.if-m-ne0.false)) c.if-self-lt2.false c.if-self-gt8.true

pub returns-in-Some : goal.returns-in-Some
returns-in-Some c =
    let a = c.args.self.now in
    style_out a.points.now a.grade a.radius a.join a.closed (omega (arith, c.if-m-ne0.false)) c.if-self-lt2.false c.if-self-gt8.false c.in-Some.ensures.1 c.in-Some.ensures.0

pub returns-then-n-gt4096 : goal.returns-then-n-gt4096
returns-then-n-gt4096 c =
    let a = c.args.self.now in
    points_over a.points.now a.grade a.radius a.join a.closed (omega (arith, c.if-m-ne0.false)) c.if-self-lt2.false c.if-self-gt8.false (omega (arith, c.in_default.ensures)) c.if-n-gt4096.true

pub first_outside-bad-requires : goal.first_outside-bad-requires
first_outside-bad-requires c = sym (point_count c.style.result.radius c.args.self.now.points.now)

pub returns-then-bad-n : goal.returns-then-bad-n
returns-then-bad-n c =
    let a = c.args.self.now in
    point_outside a.points.now a.grade a.radius a.join a.closed (omega (arith, c.if-m-ne0.false)) c.if-self-lt2.false c.if-self-gt8.false (omega (arith, c.in_default.ensures)) c.if-n-gt4096.false
    (outside_told a.points.now a.radius a.join a.closed c.style.ensures c.first_outside-bad.ensures) c.if-bad-n.true

pub returns : goal.returns
returns c =
    let a = c.args.self.now in
    kerb_passes a.points.now a.grade a.radius a.join a.closed (omega (arith, c.if-m-ne0.false)) c.if-self-lt2.false c.if-self-gt8.false (omega (arith, c.in_default.ensures)) c.if-n-gt4096.false
    (outside_told a.points.now a.radius a.join a.closed c.style.ensures c.first_outside-bad.ensures) c.if-bad-n.false
