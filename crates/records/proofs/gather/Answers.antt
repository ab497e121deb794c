-- `records::gather` meets its contract: none are gathered at first, and each turn gathers one more. Assumes nothing.
use Rattle.std.proofs.Common.{arith}
use Rattle.records.proofs.Gathered.{gathered_none, gathered_more}
use Rattle.records.proofs.gather.Goals as goal

pub loop-i-init : goal.loop-i-init
loop-i-init c = gathered_none c.args.numbers.now c.args.m c.args.path.now

pub loop-i-preserved : goal.loop-i-preserved
loop-i-preserved c =
    gathered_more c.args.numbers.now c.args.m c.args.path.now c.loop-i.i (omega arith) (omega arith) c.loop-i.invariant c.put_record.ensures
