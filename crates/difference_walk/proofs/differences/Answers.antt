-- `difference_walk::differences` meets its contract: what differs in the bodies, and after it what differs in the total. Assumes nothing.
use Rattle.paths.specs.Paths.{path_of}
use Rattle.difference_walk.proofs.BodyByBody.{total_found}
use Rattle.difference_walk.proofs.differences.Goals as goal

pub returns : goal.returns
returns c = record { due = c.differ_bodies-due.ensures.due; found = total_found c.args.front.now.grade _ (path_of c.args.path.now) c.args.front.now.n c.differ_bodies-due.ensures.found c.differ_bodies-due.ensures.due c.word_at-old.ensures c.total_number.ensures }
