-- `reading::posts::posts_with` meets its contract: a refusal is that of the shared rows, a kerb's or the room's; else the posts are written. Assumes nothing.
use native.Mathlib.Omega.{arith}
use Rattle.heading.proofs.Handed.{handed_with}
use Rattle.checking.proofs.StoreReads.{stroke_front}
use Rattle.reading.specs.PostsReading.{ReadsPosts}
use Rattle.reading.proofs.PostsAnswers.{posts_refused, posts_other, posts_short, posts_read}
use Rattle.reading.proofs.posts.posts_with.Goals as goal

pub returns-in_err-header : goal.returns-in_err-header
returns-in_err-header c = handed_with (ReadsPosts _ _) c.from_residual.ensures.1 (posts_refused _ c.in_err-header.was c.check.ensures)

pub returns-in_err-edition : goal.returns-in_err-edition
returns-in_err-edition c = handed_with (ReadsPosts _ _) c.from_residual-in_err-edition.ensures.1 (posts_other _ (c.check.ensures.sound _ c.in_ok-header.was) c.in_err-edition.ensures)

pub returns-then-out-n : goal.returns-then-out-n
returns-then-out-n c = posts_short _ (c.check.ensures.sound _ c.in_ok-header.was) c.in_ok-edition.ensures c.if-out-n.true

pub show_posts-requires : goal.show_posts-requires
show_posts-requires c = (stroke_front (c.check.ensures.sound _ c.in_ok-header.was).head _ c.in_ok-edition.ensures, omega arith)

pub returns : goal.returns
returns c = posts_read _ (c.check.ensures.sound _ c.in_ok-header.was) c.in_ok-edition.ensures c.if-out-n.false c.show_posts.ensures
