-- `half_turn::along::turns_along` meets its contract: the arc goes on at each of the 402 rotations and stops before one more. Assumes nothing.
use Rattle.turning.specs.Arcs.{turns_of}
use Rattle.half_turn.specs.Pairs.{axis_of}
use Rattle.half_turn.proofs.Halves.{HalfWay}
use Rattle.half_turn.proofs.along.turns_along.Given as goal

abbrev pub invariant-loop-i : goal.invariant-loop-i
invariant-loop-i l = HalfWay (λ m d q. turns_of m l.r d q) l.r.step (axis_of l.back) 1536 402 l.initial.out l.initial.n 0 l.initial.cur l.out l.n l.i l.cur
