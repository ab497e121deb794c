-- `oldest::lent::pass_all` meets its contract: vertex after vertex. Assumes nothing.
use Rattle.std.proofs.Common.{◌≡◌, ◌*◌, length}
use Rattle.oldest.proofs.Walking.{Ahead}
use Rattle.oldest.proofs.lent.pass_all.Given as goal

abbrev pub invariant-loop-k : goal.invariant-loop-k
invariant-loop-k g l = (length l.out ≡ length l.initial.out) × Ahead g.N.Lent.coordinate g.N.Lent.width l.numbers l.initial.out (3 * l.k) l.out
