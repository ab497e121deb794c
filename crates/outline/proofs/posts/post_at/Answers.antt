-- `outline::posts::post_at` meets its contract: by the edition. Assumes nothing.
use native.Mathlib.Omega.{arith}
use Rattle.outline.proofs.FormLengths.{post_none, post_word, post_inside}
use Rattle.outline.proofs.posts.post_at.Goals as goal

pub overflow_mul-k : goal.overflow_mul-k
overflow_mul-k c = omega (arith, post_inside c.args.k _ c.in-Second.is c.requires, c.well_formed.0.0)

pub overflow_add-k : goal.overflow_add-k
overflow_add-k c = omega (arith, post_inside c.args.k _ c.in-Second.is c.requires, c.well_formed.0.0)

pub word_at-requires : goal.word_at-requires
word_at-requires c = omega (arith, post_inside c.args.k _ c.in-Second.is c.requires)

pub returns-in-First : goal.returns-in-First
returns-in-First c = post_none _ _ c.in-First.is

pub returns-in-Second : goal.returns-in-Second
returns-in-Second c = post_word _ _ c.in-Second.is c.word_at.ensures
