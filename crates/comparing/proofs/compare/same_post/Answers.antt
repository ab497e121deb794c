-- `comparing::compare::same_post` meets its contract: by the edition. Assumes nothing.
use native.Mathlib.Omega.{arith}
use Rattle.words.proofs.OneWord.{word_room}
use Rattle.comparing.proofs.Comparisons.{agree-first_post, agree-second_post}
use Rattle.comparing.proofs.compare.same_post.Goals as goal

pub same_word-requires : goal.same_word-requires
same_word-requires c = word_room _ (omega (arith, c.requires))

pub returns-in-First : goal.returns-in-First
returns-in-First c = agree-first_post _ _ _ c.in-First.is

pub returns-in-Second : goal.returns-in-Second
returns-in-Second c = agree-second_post _ _ _ c.in-Second.is c.same_word.ensures
