-- A section between two points of a kerb is not broken, and no contact of it is its centre. Assumes nothing.
use mathlib.Core.Path.{◌≡◌, refl}
use mathlib.Core.Bool.{false}
use Prim.Native.Nat.{◌≤◌, ◌<◌}
use native.Mathlib.Omega.{arith}
use borrow.Author.Tests.{lt-leb}
use lib.IntN.{pos, neg_ℤ, nat_abs}
use Rattle.whole.proofs.Signed.{abs_is}
use Rattle.whole.proofs.Sizes.{abs_neg}
use Rattle.whole.proofs.Order.{le_false}
use Rattle.plane.specs.Vectors.{same_point, from_to, square_of}
use Rattle.turning.proofs.Rays.{level, apart_some}
use Rattle.contacts.specs.Contacts.{centre_of, line_of, delta_of, tangent_of, side_of, section_of, broken_of}
use Rattle.contacts.proofs.Contacts.{line_is, line_square, not_broken, divisor_some, section_around}
use Rattle.contacts.proofs.OffCentre.{numerator_least, contact_off, apart_back}
use Rattle.contacts.specs.declared.Vertex.{Vertex}
use Rattle.kerb.specs.Bounds.{Styled, KerbPoint, Clear}
use Rattle.kerb.specs.declared.Style.{Style}

module _ {y : Style} {a b : Vertex} (h : KerbPoint y a) (k : KerbPoint y b) (e : same_point (centre_of a) (centre_of b) ≡ false) where
  pub step_whole : broken_of a b ≡ false
  unfolding broken_of line_of delta_of centre_of
  step_whole =
      let s : 0 < square_of (from_to (centre_of a) (centre_of b)) = apart_some (centre_of b) (centre_of a) (apart_back (centre_of a) (centre_of b) e) in
      rw (h.radius, k.radius, level y.radius) (lt-leb (square_of (from_to (centre_of a) (centre_of b))) 0 s)

  pub section_clear : Styled y → Clear (section_of a b)
  unfolding section_of side_of
  section_clear w =
      let v = line_of a b in
      let delta = delta_of a b in
      let t = tangent_of (square_of v) delta in
      let sq = line_square (line_is h.inside k.inside) in
      let d = divisor_some h.inside k.inside step_whole in
      let ml = numerator_least v delta (pos t) (not_broken a b step_whole) sq refl in
      let mr = numerator_least v delta (neg_ℤ (pos t)) (not_broken a b step_whole) sq (abs_neg (pos t)) in
      let r : 1 ≤ nat_abs y.radius = omega (arith, le_false y.radius (pos 1) w.draws, abs_is y.radius) in
      let ra : 1 ≤ nat_abs a.radius = rw h.radius r in
      let rb : 1 ≤ nat_abs b.radius = rw k.radius r in
      let s = section_around h.inside k.inside step_whole in
      record {
        around = s;
        left_a = record { about = s.left_a; some = apart_some _ _ (contact_off _ _ a d ml ra) };
        left_b = record { about = s.left_b; some = apart_some _ _ (contact_off _ _ b d ml rb) };
        right_a = record { about = s.right_a; some = apart_some _ _ (contact_off _ _ a d mr ra) };
        right_b = record { about = s.right_b; some = apart_some _ _ (contact_off _ _ b d mr rb) };
      }
