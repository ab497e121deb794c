-- `records::gather`: what each turn leaves, which is that the records so far are gathered. Assumes nothing.
use Rattle.std.proofs.Common.{take}
use Rattle.records.specs.Records.{Gathers}
use Rattle.records.proofs.gather.Given as goal

abbrev pub invariant-loop-i : goal.invariant-loop-i
invariant-loop-i l = Gathers l.fn.numbers l.m (take l.i l.path) l.numbers
