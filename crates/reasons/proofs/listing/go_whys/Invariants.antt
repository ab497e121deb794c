-- `reasons::listing::go_whys` meets its contract: body after body by a walk that stays within the limits, then the closing body. Assumes nothing.
use lib.ListN.{drop}
use Rattle.runs.proofs.Onward.{Onward}
use Rattle.variable_stroke.specs.Bounds.{AroundWalk}
use Rattle.paths.specs.Paths.{path_of}
use Rattle.reasons.specs.Reasons.{pieces_from, whys_from}
use Rattle.reasons.specs.Lists.{why_numbers, put_past}
use Rattle.reasons.proofs.listing.go_whys.Given as goal

abbrev pub invariant-loop-k : goal.invariant-loop-k
invariant-loop-k l =
    AroundWalk l.w × Onward (put_past l.from) why_numbers l.initial.out l.initial.at (whys_from l.initial.k (pieces_from l.t l.initial.w (drop l.initial.k (path_of l.path)))) l.out l.at (whys_from l.k (pieces_from l.t l.w (drop l.k (path_of l.path))))
