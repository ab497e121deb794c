-- A direction that turns by a step leaves the quarter before another within so many rotations, and so comes to it in four times as many. Assumes nothing.
use mathlib.Core.Path.{◌≡◌, refl, sym, ap, ◌∙◌}
use mathlib.Core.Bool.{Bool, true, false}
use Prim.Native.Nat.{ℕ, zero, suc, ◌+◌, ◌-◌, ◌*◌, ◌^◌, ◌≤◌, ◌<◌}
use native.Mathlib.Nat.{mul-le-mul, mul-suc, suc-mul, add_comm, add-zero, add-suc, suc-add}
use native.Mathlib.Omega.{arith}
use lib.IntN.{ℤ, pos, neg_ℤ, nat_abs, ◌+ℤ◌, ◌-ℤ◌, ◌*ℤ◌, neg_ℤ-+ℤ}
use lib.Signed.{le_z, ◌≤ℤ◌}
use Rattle.whole.proofs.Signed.{up, down, ext, le_from, le_to, up-neg, down-neg, mul_negℤ}
use Rattle.whole.proofs.Order.{natural, le_true, le_false}
use Rattle.whole.proofs.Sizes.{abs_neg}
use Rattle.whole.proofs.Squares.{square_le}
use Rattle.plane.specs.Vectors.{cross_of, dot_of, square_of}
use Rattle.plane.specs.Directions.{rotated_of, UnitLong}
use Rattle.plane.specs.declared.Vector.{Vector}
use Rattle.plane.proofs.Norms.{most_first, most_second}
use Rattle.plane.proofs.Leeway.{rest_of}
use Rattle.plane.proofs.Directions.{unit_short, turned_unit}
use Rattle.leaps.specs.Leaps.{turned_of}
use Rattle.leaps.proofs.Leaping.{many_add}
use Rattle.quarter.proofs.Gains.{turned_dot, turned_cross, rests, grows, ahead, products, sum_long, shrinks}

-- ---- quarters

-- d lies in the quarter before e, or on its edge
pub record Quarter (e d : Vector) : Type 0 where
  pub dot : pos 0 ≤ℤ dot_of d e
  pub cross : pos 0 ≤ℤ cross_of d e

-- turned by a quarter to the right, and so many times
abbrev pub right_of : Vector → Vector
right_of v = record { x = v.y; y = neg_ℤ v.x }

unfoldable pub rights : ℕ → Vector → Vector
rights zero e = e
rights (suc m) e = right_of (rights m e)

pub dot_right : (d v : Vector) → dot_of d (right_of v) ≡ cross_of d v
unfolding dot_of cross_of
dot_right d v = ap (λ (z : ℤ). d.x *ℤ v.y +ℤ z) (mul_negℤ d.y v.x)

pub cross_right : (d v : Vector) → cross_of d (right_of v) ≡ neg_ℤ (dot_of d v)
unfolding dot_of cross_of
cross_right d v = simp (mul_negℤ, neg_ℤ-+ℤ) refl

square_right : (v : Vector) → square_of (right_of v) ≡ square_of v
unfolding square_of
square_right v = rw (abs_neg v.x) (add_comm (nat_abs v.y * nat_abs v.y) (nat_abs v.x * nat_abs v.x))

rights_square : (m : ℕ) (e : Vector) → square_of (rights m e) ≡ square_of e
unfolding rights
rights_square zero e = refl
rights_square (suc m) e = square_right (rights m e) ∙ rights_square m e

-- past the right of w, and yet ahead: in the quarter before w
moved_on : (d w : Vector) → pos 0 ≤ℤ dot_of d (right_of w) → cross_of d (right_of w) ≤ℤ pos 0 → Quarter w d
moved_on d w h k =
    let g : neg_ℤ (dot_of d w) ≤ℤ pos 0 = rw (← cross_right d w) k in
    record {
      dot = le_from (pos 0) (dot_of d w) (omega (arith, le_to g, up-neg (dot_of d w), down-neg (dot_of d w)));
      cross = rw (← dot_right d w) h;
    }

-- ---- a step that takes directions on: c and s are its parts, f is its excess

pub record Advances (t : Vector) (c s f : ℕ) : Type 0 where
  pub x : t.x ≡ pos c
  pub y : t.y ≡ pos s
  pub unit : UnitLong t
  pub long : 2 ^ 60 ≤ square_of t + (2 ^ 32 + 1)
  pub excess : c + s ≡ 2 ^ 30 + f
  pub far : 3 * 2 ^ 16 ≤ f

-- a direction after n rotations, for n up to 1,536: little shorter than 2 ^ 30
pub record StaysLong (n : ℕ) (d : Vector) : Type 0 where
  pub unit : UnitLong d
  pub long : 2 ^ 60 ≤ square_of d + 2 ^ 33 * n + (2 ^ 32 + 1)

kept_long : {n : ℕ} {d : Vector} → n ≤ 1536 → StaysLong n d → 2 ^ 60 - 2 ^ 44 ≤ square_of d
kept_long h k = omega (arith, h, k.long)

natural_is : {a : ℤ} → pos 0 ≤ℤ a → a ≡ pos (nat_abs a)
natural_is {a} h = let n = natural h in ext a (pos (nat_abs a)) (omega (arith, n.0, n.1))

dot_most : (d e : Vector) → UnitLong d → UnitLong e → nat_abs (dot_of d e) ≤ 2 ^ 60
dot_most d e hd he = square_le (nat_abs (dot_of d e)) (2 ^ 60) (omega (arith, products d e, mul-le-mul hd.length he.length))

cross_most : (d e : Vector) → UnitLong d → UnitLong e → nat_abs (cross_of d e) ≤ 2 ^ 60
cross_most d e hd he = square_le (nat_abs (cross_of d e)) (2 ^ 60) (omega (arith, products d e, mul-le-mul hd.length he.length))

-- where d leaves the quarter before e: ahead still, and past it, fewer than k rotations before the last
pub record LeavesQuarter (t e d : Vector) (k : ℕ) : Type 0 where
  pub turns : ℕ
  pub few : turns < k
  pub quarter : Quarter e (turned_of turns t d)
  pub ahead : pos 0 ≤ℤ dot_of (turned_of (suc turns) t d) e
  pub past : cross_of (turned_of (suc turns) t d) e ≤ℤ pos 0

-- where d comes to e: near it, and with the next rotation past it
pub record Arrives (t e d : Vector) (k : ℕ) : Type 0 where
  pub turns : ℕ
  pub few : turns < k
  pub near : Quarter e (turned_of turns t d)
  pub past : cross_of (turned_of (suc turns) t d) e ≤ℤ pos 0

module _ {t : Vector} {c s f : ℕ} (T : Advances t c s f) where
  c_most : c ≤ 2 ^ 30
  c_most = rw T.x at (unit_short T.unit).x.size

  s_most : s ≤ 2 ^ 30
  s_most = rw T.y at (unit_short T.unit).y.size

  kept_next : {n : ℕ} {d : Vector} → StaysLong n d → StaysLong (suc n) (rotated_of t d)
  kept_next {n} {d} k = record { unit = turned_unit T.unit k.unit; long = omega (arith, k.long, shrinks t d T.unit k.unit T.long) }

  kept_many : (k n : ℕ) (d : Vector) → StaysLong n d → StaysLong (n + k) (turned_of k t d)
  unfolding turned_of
  kept_many zero n d K = rw (add-zero n) K
  kept_many (suc k) n d K = rw (add-suc n k) (rw (suc-add n k) at (kept_many k (suc n) (rotated_of t d) (kept_next K)))

  next_add : (m n : ℕ) (d : Vector) → turned_of (suc (m + n)) t d ≡ turned_of (suc n) t (turned_of m t d)
  next_add m n d = ap (λ (i : ℕ). turned_of i t d) (sym (add-suc m n)) ∙ many_add m (suc n) t d

  -- ---- a rotation in the quarter before e

  module _ {e d : Vector} (he : UnitLong e) (le : 2 ^ 60 - 2 ^ 44 ≤ square_of e) (ld : 2 ^ 60 - 2 ^ 44 ≤ square_of d) (Q : Quarter e d) where
    abbrev p : ℕ
    p = nat_abs (dot_of d e)

    abbrev q : ℕ
    q = nat_abs (cross_of d e)

    sum : 2 ^ 60 ≤ p + q + 2 ^ 44
    sum = omega (arith, sum_long (2 ^ 60 - 2 ^ 44) p q (square_of d) (square_of e) ld le (products d e))

    dots : dot_of (rotated_of t d) e *ℤ pos (2 ^ 30) +ℤ dot_of (rest_of t d) e ≡ pos (c * p + s * q)
    dots = turned_dot t d e ∙ (λ i. T.x i *ℤ natural_is Q.dot i +ℤ T.y i *ℤ natural_is Q.cross i)

    crosses : cross_of (rotated_of t d) e *ℤ pos (2 ^ 30) +ℤ cross_of (rest_of t d) e ≡ pos (c * q) -ℤ pos (s * p)
    crosses = turned_cross t d e ∙ (λ i. T.x i *ℤ natural_is Q.cross i -ℤ T.y i *ℤ natural_is Q.dot i)

    next_ahead : pos 0 ≤ℤ dot_of (rotated_of t d) e
    next_ahead =
        ahead c s p q (dot_of (rotated_of t d) e) (dot_of (rest_of t d) e) (omega (arith, T.excess, T.far, s_most)) (omega (arith, T.excess, T.far, c_most)) sum dots
        (omega (arith, most_second (rests t d e he)))

    next_grows : p + up (cross_of (rotated_of t d) e) + down (dot_of (rotated_of t d) e) + f * (2 ^ 30 - 2 ^ 15) ≤ q + up (dot_of (rotated_of t d) e) + down (cross_of (rotated_of t d) e)
    next_grows =
        grows c s f p q (dot_of (rotated_of t d) e) (cross_of (rotated_of t d) e) (dot_of (rest_of t d) e) (cross_of (rest_of t d) e) c_most T.excess T.far sum dots crosses
        (omega (arith, most_second (rests t d e he))) (omega (arith, most_first (rests t d e he)))

  -- so d leaves that quarter: a is what a rotation adds
  module _ (a : ℕ) (ha : a ≡ f * (2 ^ 30 - 2 ^ 15)) where
    leaves_quarter : (k n : ℕ) (e d : Vector) → UnitLong e → 2 ^ 60 - 2 ^ 44 ≤ square_of e → StaysLong n d → n + k ≤ 1536 → Quarter e d
        → 2 ^ 60 + nat_abs (cross_of d e) < nat_abs (dot_of d e) + k * a → LeavesQuarter t e d k
    unfolding turned_of
    leaves_quarter zero n e d he le K few Q far = absurd (omega (arith, far, dot_most d e K.unit he))
    leaves_quarter (suc k) n e d he le K few Q far = go (le_z (cross_of (rotated_of t d) e) (pos 0)) refl (λ R h. leaves_quarter k (suc n) e (rotated_of t d) he le (kept_next K) (omega (arith, few)) R h)
      where
        next : pos 0 ≤ℤ dot_of (rotated_of t d) e
        next = next_ahead he le (kept_long (omega (arith, few)) K) Q

        more : nat_abs (dot_of d e) + up (cross_of (rotated_of t d) e) + down (dot_of (rotated_of t d) e) + a ≤ nat_abs (cross_of d e) + up (dot_of (rotated_of t d) e) + down (cross_of (rotated_of t d) e)
        more = rw ha (next_grows he le (kept_long (omega (arith, few)) K) Q)

        go : (x : Bool) → le_z (cross_of (rotated_of t d) e) (pos 0) ≡ x
            → (Quarter e (rotated_of t d) → 2 ^ 60 + nat_abs (cross_of (rotated_of t d) e) < nat_abs (dot_of (rotated_of t d) e) + k * a → LeavesQuarter t e (rotated_of t d) k) → LeavesQuarter t e d (suc k)
        go true w on = record { turns = 0; few = omega arith; quarter = Q; ahead = next; past = le_from (cross_of (rotated_of t d) e) (pos 0) (le_true (cross_of (rotated_of t d) e) (pos 0) w) }
        go false w on =
            let l = le_false (cross_of (rotated_of t d) e) (pos 0) w in
            let z : pos 0 ≤ℤ cross_of (rotated_of t d) e = le_from (pos 0) (cross_of (rotated_of t d) e) (omega (arith, l)) in
            let i = natural next in
            let j = natural z in
            let r = on (record { dot = next; cross = z }) (omega (arith, more, far, suc-mul k a, i.0, i.1, j.0, j.1)) in
            record { turns = suc r.turns; few = omega (arith, r.few); quarter = r.quarter; ahead = r.ahead; past = r.past }

    -- ---- from quarter to quarter, each of k rotations at most

    module _ (k : ℕ) (hk : 2 ^ 61 < k * a) where
      through : (n : ℕ) (e d : Vector) → UnitLong e → 2 ^ 60 - 2 ^ 44 ≤ square_of e → StaysLong n d → n + k ≤ 1536 → Quarter e d → LeavesQuarter t e d k
      through n e d he le K few Q = leaves_quarter k n e d he le K few Q (omega (arith, hk, cross_most d e K.unit he))

      pub arrives : (m n : ℕ) (e d : Vector) → UnitLong e → 2 ^ 60 - 2 ^ 44 ≤ square_of e → StaysLong n d → n + k * suc m ≤ 1536 → Quarter (rights m e) d → Arrives t e d (k * suc m)
      unfolding rights
      arrives zero n e d he le K few Q =
          let l = through n e d he le K (omega (arith, few)) Q in
          record { turns = l.turns; few = omega (arith, l.few); near = l.quarter; past = l.past }
      arrives (suc m) n e d he le K few Q =
          let w = rights m e in
          let hw : UnitLong (right_of w) = record { length = rw (square_right w, rights_square m e) he.length } in
          let lw : 2 ^ 60 - 2 ^ 44 ≤ square_of (right_of w) = rw (square_right w, rights_square m e) le in
          let l = through n (right_of w) d hw lw K (omega (arith, few, mul-suc k (suc m))) Q in
          let j = suc l.turns in
          let b = arrives m (n + j) e (turned_of j t d) he le (kept_many j n d K) (omega (arith, few, l.few, mul-suc k (suc m))) (moved_on (turned_of j t d) w l.ahead l.past) in
          record {
            turns = j + b.turns;
            few = omega (arith, b.few, l.few, mul-suc k (suc m));
            near = rw (many_add j b.turns t d) b.near;
            past = rw (next_add j b.turns d) b.past;
          }
