-- `heading::heads::read_form` meets its contract: by the kind, and of a kerb by whether its style has a fault. Assumes nothing.
use native.Mathlib.Omega.{arith}
use Rattle.heading.proofs.HeadRows.{stroke_form, kerb_long, style_fails, style_holds}
use Rattle.heading.proofs.heads.read_form.Goals as goal

pub returns-in-Stroke : goal.returns-in-Stroke
returns-in-Stroke c = stroke_form c.requires c.in-Stroke.is

pub word_at-radius-requires : goal.word_at-radius-requires
word_at-radius-requires c = omega (arith, kerb_long c.requires c.in_default.is)

pub word_at-join-requires : goal.word_at-join-requires
word_at-join-requires c = omega (arith, kerb_long c.requires c.in_default.is)

pub word_at-closed-requires : goal.word_at-closed-requires
word_at-closed-requires c = omega (arith, kerb_long c.requires c.in_default.is)

pub returns-in-Some : goal.returns-in-Some
returns-in-Some c = style_holds c.requires c.in_default.is c.word_at-radius.ensures c.word_at-join.ensures c.word_at-closed.ensures c.in-Some.ensures

pub returns-in-None : goal.returns-in-None
returns-in-None c = style_fails c.requires c.in_default.is c.word_at-radius.ensures c.word_at-join.ensures c.word_at-closed.ensures c.in-None.ensures c.style_of.ensures
