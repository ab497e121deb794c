-- `heading::shows::show_point` meets its contract: each number is stored as it is, in its place. Assumes nothing.
use Rattle.heading.proofs.Shown.{point_shown}
use Rattle.heading.proofs.shows.show_point.Goals as goal

pub returns : goal.returns
returns c = record { each = λ o. point_shown c.args.s.now c.args.k o c.signed-x.type_inv c.signed-y.type_inv c.signed-x.ensures c.signed-y.ensures c.word_at.ensures c.word_at-2.ensures }
