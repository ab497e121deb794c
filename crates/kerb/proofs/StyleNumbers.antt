-- A style from its numbers as the code has them. Assumes nothing.
use mathlib.Core.Path.{◌≡◌}
use Prim.Native.Nat.{ℕ, ◌≤◌}
use native.Mathlib.Omega.{arith}
use lib.Dec.{eqb}
use lib.IntN.{ℤ, pos}
use Rattle.whole.proofs.Signed.{le_from}
use Rattle.turning.specs.Bounds.{Radius}
use Rattle.kerb.specs.Styles.{join_numbered, style_of}
use Rattle.kerb.specs.declared.Join.{Join}
use Rattle.kerb.specs.declared.Style.{Style}

pub style_told : (r j c : ℕ) {z : ℤ} {q : Join} → z ≡ pos r → q ≡ join_numbered j → record { radius = z; join = q; closed = eqb c 1 } ≡ style_of r j c
unfolding style_of
style_told r j c e f = rw (e, f)

pub style_radius : (r j c : ℕ) {y : Style} → r ≤ 268435456 → y ≡ style_of r j c → Radius y.radius
unfolding style_of
style_radius r j c h e = rw e (record { low = le_from (pos 0) (pos r) (omega arith); high = h })
