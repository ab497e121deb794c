-- `outline::posts::show_posts` meets its contract: what is left of the posts is shown on, one by one. Assumes nothing.
use Rattle.outline.proofs.ShownPosts.{PostsOn}
use Rattle.outline.proofs.posts.show_posts.Given as goal

abbrev pub invariant-loop-k : goal.invariant-loop-k
invariant-loop-k l = PostsOn l.edition l.s l.n l.initial.out l.out l.k
