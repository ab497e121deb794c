-- `chunks::bytes::slide_bytes` meets its contract: the part further up is pasted. Assumes nothing.
use mathlib.Core.Path.{◌∙◌}
use Prim.Native.Nat.{◌+◌, ◌-◌}
use native.Mathlib.Omega.{arith}
use lib.ListN.{drop}
use Rattle.chunks.proofs.Laid.{laid_paste, part_length_lem}
use Rattle.chunks.proofs.bytes.slide_bytes.Goals as goal

pub returns : goal.returns
returns c =
    c.copy_within.ensures.after
    ∙ laid_paste c.args.s.now (drop c.args.from c.args.s.now) c.args.at (c.args.from + c.args.n - c.args.from) c.args.n (omega arith) (part_length_lem c.args.s.now c.args.from c.args.n (omega arith)) (omega arith)
