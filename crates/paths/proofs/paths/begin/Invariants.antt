-- `paths::paths::begin` meets its contract: step by step the room holds every edge so far. Assumes nothing.
use Rattle.paths.specs.Paths.{path_of}
use Rattle.paths.specs.Stands.{Begins}
use Rattle.paths.proofs.paths.begin.Given as goal

abbrev pub invariant-loop-k : goal.invariant-loop-k
invariant-loop-k l = Begins l.pen (path_of l.path) l.out (record { walk = l.w; next = l.k; at = l.at })
