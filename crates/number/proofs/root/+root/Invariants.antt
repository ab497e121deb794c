-- `number::root::root`: a quarter falls. Assumes nothing.
use Rattle.number.proofs.root.+root.Given as goal

abbrev pub decreases-root : goal.decreases-root
decreases-root l = l.n
