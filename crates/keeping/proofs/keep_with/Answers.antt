-- `keeping::keep_with` meets its contract: the posts are one 0, and those that are missing are 0. Assumes nothing.
use mathlib.Core.Path.{refl}
use Rattle.keeping.proofs.KeepAnswers.{keeps_plain}
use Rattle.keeping.proofs.keep_with.Goals as goal

pub returns : goal.returns
returns c = keeps_plain _ refl c.keep_posts.ensures
