-- `reasons::counts::about` meets its contract: an arc over no room, four numbers an edge. Assumes nothing.
use Rattle.joins.specs.Joins.{arc_about}
use Rattle.reasons.proofs.Counted.{plain_count}
use Rattle.reasons.proofs.counts.about.Goals as goal

pub returns : goal.returns
returns c = plain_count (λ t. arc_about t c.args.v c.args.p c.args.q c.args.choice) c.plain.ensures.step c.plain.ensures.folds c.arc_about.ensures
