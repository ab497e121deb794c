-- `salvaging::making::salvage_front` meets its contract: vertices and posts are copied, and the rows are tested over them. Assumes nothing.
use native.Mathlib.Omega.{arith}
use Rattle.salvaging.proofs.Given.{shown_lent, posts_lent}
use Rattle.salvaging.proofs.FrontRows.{front_fits}
use Rattle.salvaging.proofs.making.salvage_front.Goals as goal

pub show_path-requires : goal.show_path-requires
show_path-requires c = ((front_fits c.args.front.now).fronted.long, omega (arith, (front_fits c.args.front.now).fronted.few, c.requires.0))

pub show_posts-requires : goal.show_posts-requires
show_posts-requires c = ((front_fits c.args.front.now).fronted.long, omega (arith, (front_fits c.args.front.now).fronted.few, c.requires.1))

pub salvage_path-requires : goal.salvage_path-requires
salvage_path-requires c = record { copied = (shown_lent (front_fits c.args.front.now) c.requires.0 c.show_path.ensures, posts_lent (front_fits c.args.front.now) c.args.posts.now c.show_posts.ensures); own_room = (c.requires.2, c.requires.3) }

pub returns : goal.returns
returns c = c.salvage_path.ensures
