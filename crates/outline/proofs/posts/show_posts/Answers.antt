-- `outline::posts::show_posts` meets its contract: what is left of the posts is shown on, one by one. Assumes nothing.
use Rattle.outline.proofs.ShownPosts.{posts_step, posts_done}
use Rattle.outline.proofs.posts.show_posts.Goals as goal

pub loop-k-preserved : goal.loop-k-preserved
loop-k-preserved c = posts_step _ _ _ c.loop-k.invariant c.loop-k-test.true c.post_at.ensures

pub returns : goal.returns
returns c = posts_done _ _ _ c.loop-k.invariant c.loop-k-test.false c.requires.1
