-- `keeping::filling::put_post` meets its contract: by the edition. Assumes nothing.
use native.Mathlib.Omega.{arith}
use Rattle.words.proofs.OneWord.{word_room}
use Rattle.outline.proofs.Parts.{post_first, post_second}
use Rattle.keeping.proofs.filling.put_post.Goals as goal

pub put_word-requires : goal.put_word-requires
put_word-requires c = word_room _ (omega (arith, c.requires))

pub returns-in-First : goal.returns-in-First
returns-in-First c = post_first _ c.in-First.is

pub returns-in-Second : goal.returns-in-Second
returns-in-Second c = post_second c.in-Second.is c.put_word.ensures
