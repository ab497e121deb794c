-- `words::numbers::alike` meets its contract: all before j agree, so whoever compares the rest has compared them all. Assumes nothing.
use mathlib.Core.Path.{◌≡◌, refl}
use Prim.Native.Nat.{◌+◌, ◌*◌}
use native.Mathlib.Omega.{arith}
use Rattle.std.proofs.Common.{rules}
use Rattle.words.proofs.OneWord.{word_same}
use Rattle.words.proofs.NumberRuns.{onward_number}
use Rattle.words.proofs.numbers.alike.Goals as goal

pub loop-j-preserved : goal.loop-j-preserved
loop-j-preserved c =
    let e : c.args.at + 4 * (c.loop-j.j + 1) ≡ c.args.at + 4 * c.loop-j.j + 4 = omega arith in
    rw e (onward_number _ _ c.loop-j.invariant c.loop-j-test.true (record { sfits = search rules }) c.bits.ensures
    (word_same c.args.s.now refl (omega arith) c.type_inv.s (omega arith)))
