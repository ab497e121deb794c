-- `chunks::bytes::clear_bytes` meets its contract: the part is filled with zeros. Assumes nothing.
use mathlib.Core.Path.{ap, ◌∙◌}
use Prim.Native.Nat.{ℕ, ◌+◌, ◌-◌}
use native.Mathlib.Omega.{arith}
use lib.ListN.{replicate, length-replicate}
use Rattle.chunks.proofs.Laid.{laid_part, part_length_lem}
use Rattle.chunks.proofs.bytes.clear_bytes.Goals as goal

pub returns : goal.returns
returns c =
    laid_part c.args.s.now c.args.at (c.args.at + c.args.n - c.args.at)
    (c.fill.ensures.after (λ y h. h) ∙ ap (λ q. replicate q 0) (part_length_lem c.args.s.now c.args.at (c.args.at + c.args.n - c.args.at) (omega arith) ∙ omega arith))
    (omega (arith, length-replicate {A = ℕ} c.args.n 0)) (omega arith)
