-- `replies::style_rows::style_fault` meets its contract: one law for each test. Assumes nothing.
use mathlib.Core.Path.{sym}
use Rattle.replies.proofs.StyleFaults.{radius_out, join_out, closed_out, no_fault}
use Rattle.replies.proofs.style_rows.style_fault.Goals as goal

pub returns-then-radius-gt268435456 : goal.returns-then-radius-gt268435456
returns-then-radius-gt268435456 c = radius_out _ _ _ c.if-radius-gt268435456.true

pub returns-then-join-gt1 : goal.returns-then-join-gt1
returns-then-join-gt1 c = join_out _ _ _ c.if-radius-gt268435456.false c.if-join-gt1.true

pub returns-then-closed-gt1 : goal.returns-then-closed-gt1
returns-then-closed-gt1 c = closed_out _ _ _ c.if-radius-gt268435456.false c.if-join-gt1.false c.if-closed-gt1.true

pub returns : goal.returns
returns c = sym (no_fault _ _ _ c.if-radius-gt268435456.false c.if-join-gt1.false c.if-closed-gt1.false)
