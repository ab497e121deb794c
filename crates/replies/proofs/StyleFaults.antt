-- The row of a kerb's style: by each test, and what it leaves where it fails. Assumes nothing.
use Rattle.std.specs.Prelude.{Some}
use mathlib.Core.Path.{◌≡◌, refl}
use mathlib.Core.Bool.{Bool, true, false}
use mathlib.Core.List.{[], ◌∷◌}
use Prim.Native.Nat.{ℕ, ◌≤◌, ◌<◌}
use native.Mathlib.Omega.{arith}
use borrow.Author.Tests.{lt-ltb, le-ltb, ltb-false}
use lib.Dec.{ltb}
use Rattle.replies.specs.Replies.{first_row}
use Rattle.replies.specs.StyleRows.{style_fault, Faults}

module _ (r j c : ℕ) where
  pub radius_out : 268435456 < r → Faults (Some 5) (style_fault r j c)
  unfolding style_fault first_row
  radius_out h = (omega arith, rw (lt-ltb 268435456 r h, first_row))

  module _ (hr : r ≤ 268435456) where
    pub join_out : 1 < j → Faults (Some 6) (style_fault r j c)
    unfolding style_fault first_row
    join_out h = (omega arith, rw (le-ltb 268435456 r hr, first_row, lt-ltb 1 j h, first_row))

    module _ (hj : j ≤ 1) where
      pub closed_out : 1 < c → Faults (Some 7) (style_fault r j c)
      unfolding style_fault first_row
      closed_out h = (omega arith, rw (le-ltb 268435456 r hr, first_row, le-ltb 1 j hj, first_row, lt-ltb 1 c h, first_row))

      pub no_fault : c ≤ 1 → 0 ≡ style_fault r j c
      unfolding style_fault first_row
      no_fault h = rw (le-ltb 268435456 r hr, first_row, le-ltb 1 j hj, first_row, le-ltb 1 c h, first_row)

  -- and back
  pub faultless : style_fault r j c ≡ 0 → (r ≤ 268435456) × (j ≤ 1) × (c ≤ 1)
  unfolding style_fault first_row
  faultless e = go (ltb 268435456 r) (ltb 1 j) (ltb 1 c) refl refl refl e
    where
      go : (x y z : Bool) → ltb 268435456 r ≡ x → ltb 1 j ≡ y → ltb 1 c ≡ z → first_row {A = ℕ} ((x, 5) ∷ (y, 6) ∷ (z, 7) ∷ []) 0 ≡ 0 → (r ≤ 268435456) × (j ≤ 1) × (c ≤ 1)
      go true y z f g h k = absurd (omega (arith, k))
      go false true z f g h k = absurd (omega (arith, k))
      go false false true f g h k = absurd (omega (arith, k))
      go false false false f g h k = (ltb-false _ _ f, ltb-false _ _ g, ltb-false _ _ h)
