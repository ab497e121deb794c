-- `leaps::leaps::leapt` meets its contract: each leap goes on from where the last came to. Assumes nothing.
use Prim.Native.Nat.{◌-◌}
use Rattle.leaps.specs.Leaps.{Leads}
use Rattle.leaps.proofs.leaps.leapt.Given as goal

abbrev pub invariant-loop-s : goal.invariant-loop-s
invariant-loop-s l = Leads l.r.step l.r.toward l.initial.s.turns l.initial.s.off l.initial.s.direction l.s.turns l.s.off l.s.direction

abbrev pub decreases-loop-s : goal.decreases-loop-s
decreases-loop-s l = 1534 - l.s.turns
