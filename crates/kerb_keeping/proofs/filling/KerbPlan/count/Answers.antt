-- `kerb_keeping::filling::KerbPlan::count` meets its contract: the tour over scratch comes to four numbers an edge. Assumes nothing.
use Rattle.kerb_keeping.proofs.KerbFilled.{edges_counted}
use Rattle.kerb_keeping.proofs.filling.KerbPlan.count.Goals as goal

pub returns : goal.returns
returns c = edges_counted c.kerb_edges.ensures
