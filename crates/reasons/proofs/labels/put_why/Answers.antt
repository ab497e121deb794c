-- `reasons::labels::put_why` meets its contract: the five numbers stand one after another. Assumes nothing.
use Rattle.reasons.proofs.Listed.{why_put}
use Rattle.reasons.proofs.labels.put_why.Goals as goal

pub returns : goal.returns
returns c = why_put _ _ c.reason_number.ensures c.put_past.ensures c.put_past-2.ensures c.put_past-3.ensures c.exactness-exact.ensures c.exact_number.ensures c.put_past-4.ensures c.exact_number-2.ensures c.put_past-5.ensures
