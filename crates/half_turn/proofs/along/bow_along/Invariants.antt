-- `half_turn::along::bow_along` meets its contract: whoever writes what is left from here has written all.
-- Assumes nothing.
use Rattle.leaps.specs.Bows.{bow_of}
use Rattle.half_turn.specs.Pairs.{axis_of}
use Rattle.half_turn.proofs.Halves.{HalfWay}
use Rattle.half_turn.proofs.along.bow_along.Given as goal

abbrev pub invariant-loop-i : goal.invariant-loop-i
invariant-loop-i l = HalfWay (λ m d q. bow_of m l.r d q) l.r.step (axis_of l.back) l.turns l.turns l.initial.out l.initial.n 0 l.initial.cur l.out l.n l.i l.cur
