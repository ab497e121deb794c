-- Leaps over an arc's rotations: where they come to, and that the arc does not stop on the way. Assumes nothing.
use mathlib.Core.Path.{◌≡◌, ap, ◌∙◌}
use mathlib.Core.Bool.{Bool, true, false}
use Prim.Native.Nat.{ℕ, zero, suc, ◌+◌, ◌*◌, ◌≤◌}
use native.Mathlib.Nat.{zero-add, suc-mul}
use native.Mathlib.Omega.{arith}
use Rattle.plane.specs.Vectors.{square_of}
use Rattle.plane.specs.Directions.{rotated_of, UnitLong}
use Rattle.plane.specs.OffBy.{OffBy}
use Rattle.plane.proofs.Directions.{turned_unit, turned_no_longer}
use Rattle.plane.specs.declared.Vector.{Vector}
use Rattle.turning.specs.Arcs.{stops_of}
use Rattle.leaps.specs.Leaps.{turned_of, Goes, sway_of, Leaps, Comes, Leads, Clears}
use Rattle.plane.proofs.Leeway.{within_same, within_more, within_then, turned_within, turned_twice, sway_within}

-- ---- many rotations

pub many_unit : (n : ℕ) (t d : Vector) → UnitLong t → UnitLong d → UnitLong (turned_of n t d)
unfolding turned_of
many_unit zero t d h k = k
many_unit (suc n) t d h k = many_unit n t (rotated_of t d) h (turned_unit h k)

next_add : (m n : ℕ) → suc m + n ≡ suc (m + n)
next_add m n = omega arith

pub many_add : (m n : ℕ) (t d : Vector) → turned_of (m + n) t d ≡ turned_of n t (turned_of m t d)
unfolding turned_of
many_add zero n t d = ap (λ k. turned_of k t d) (zero-add n)
many_add (suc m) n t d = ap (λ k. turned_of k t d) (next_add m n) ∙ many_add m n t (rotated_of t d)

pub many_no_longer : (n : ℕ) (t d : Vector) → UnitLong t → square_of (turned_of n t d) ≤ square_of d
unfolding turned_of
many_no_longer zero t d h = omega arith
many_no_longer (suc n) t d h = omega (arith, many_no_longer n t (rotated_of t d) h, turned_no_longer t d h)

pub goes_add : (m n : ℕ) (t e d : Vector) → Goes m t e d → Goes n t e (turned_of m t d) → Goes (m + n) t e d
unfolding turned_of Goes
goes_add zero n t e d h k = rw (zero-add n) k
goes_add (suc m) n t e d h k = rw (next_add m n) (h.0, goes_add m n t e (rotated_of t d) h.1 k)

-- ---- leaps

pub leaps_one : (t : Vector) → UnitLong t → Leaps t 1 0 t
unfolding turned_of
leaps_one t h = record { unit = h; near = λ v k. within_same (rotated_of t v) }

pub leaps_twice : (n a : ℕ) (t u : Vector) {w : Vector} → UnitLong t → Leaps t n a u → w ≡ rotated_of u u → Leaps t (n + n) (a + a + 9) w
leaps_twice n a t u {w} ht h e = record { unit = rw e (turned_unit h.unit h.unit); near = near }
  where
    near : (v : Vector) → UnitLong v → OffBy (a + a + 9) (turned_of (n + n) t v) (rotated_of w v)
    near v k =
        let m = turned_of n t v in
        let first : OffBy a (turned_of n t m) (rotated_of u m) = h.near m (many_unit n t v ht k) in
        let then : OffBy (a + 3) (rotated_of u m) (rotated_of u (rotated_of u v)) = turned_within u m (rotated_of u v) h.unit (h.near v k) in
        let last : OffBy 6 (rotated_of u (rotated_of u v)) (rotated_of (rotated_of u u) v) = turned_twice u u v h.unit k in
        rw (many_add n n t v, e) (within_more (omega arith) (within_then _ _ _ first (within_then _ _ _ then last)))

pub leaps_eight : (t : Vector) {two four eight : Vector} → UnitLong t → two ≡ rotated_of t t → four ≡ rotated_of two two → eight ≡ rotated_of four four → Leaps t 8 63 eight
leaps_eight t h e f g = leaps_twice 4 27 t _ h (leaps_twice 2 9 t _ h (leaps_twice 1 0 t t h (leaps_one t h) e) f) g

-- ---- going on: no direction within reach of p stops the arc

sway_of_lem : (t v : Vector) → UnitLong v → OffBy (sway_of t) (rotated_of t v) v
unfolding sway_of
sway_of_lem t v h = sway_within t v h

pub clear_goes : (n a reach : ℕ) (t e d p : Vector) → ((v w : Vector) → OffBy reach v p → OffBy reach w p → stops_of v w e ≡ false)
    → UnitLong t → UnitLong d → OffBy a d p → a + n * sway_of t ≤ reach → Goes n t e d
unfolding Goes
clear_goes zero a reach t e d p f ht hd h k = tt
clear_goes (suc n) a reach t e d p f ht hd h k =
    let far = sway_of t in
    let l : suc n * far ≡ n * far + far = suc-mul n far in
    let next : OffBy (a + far) (rotated_of t d) p = within_more (omega arith) (within_then _ _ _ (sway_of_lem t d hd) h) in (
      f d (rotated_of t d) (within_more (omega (arith, k, l)) h) (within_more (omega (arith, k, l)) next),
      clear_goes n (a + far) reach t e (rotated_of t d) p f ht (turned_unit ht hd) next (omega (arith, k, l)),
    )

-- a leap further
pub comes_on : (n a m b reach : ℕ) (t e d u v : Vector) {w : Vector} → Comes t e d n a v → Leaps t m b u → UnitLong t → UnitLong d
    → ((x y : Vector) → OffBy reach x v → OffBy reach y v → stops_of x y e ≡ false) → a + m * sway_of t ≤ reach → w ≡ rotated_of u v
    → n + m ≤ 1534 → b + 3 ≤ 9 * m → Comes t e d (n + m) (a + (b + 3)) w
comes_on n a m b reach t e d u v {w} h k ht hd f l g i j =
    let q = turned_of n t d in
    let hq = many_unit n t d ht hd in
    let leap : OffBy b (turned_of m t q) (rotated_of u q) = k.near q hq in
    let then : OffBy (a + 3) (rotated_of u q) (rotated_of u v) = turned_within u q v k.unit h.near in
    record {
      unit = rw g (turned_unit k.unit h.unit);
      near = rw (many_add n m t d, g) (within_more (omega arith) (within_then _ _ _ leap then));
      goes = goes_add n m t e d h.goes (clear_goes m a reach t e q v f ht hq h.near l);
      turns = i;
      off = omega (arith, h.off, j);
    }

pub comes_start : (t e d : Vector) → UnitLong d → Comes t e d 0 0 d
unfolding turned_of Goes
comes_start t e d h = record { unit = h; near = within_same d; goes = tt; turns = omega arith; off = omega arith }

-- ---- where an arc leads

pub leads_same : {t e v : Vector} {n a : ℕ} → UnitLong v → n ≤ 1534 → a ≤ 9 * n → Leads t e n a v n a v
leads_same h i j = record { unit = h; turns = i; off = j; comes = λ _ _ k. k }

pub leads_on : (m b reach : ℕ) (t e u : Vector) {v w x : Vector} {n a k c : ℕ} {y : Bool} → Leads t e n a v k c w → Leaps t m b u → UnitLong t
    → Clears w e reach y → y ≡ true → c + m * sway_of t ≤ reach → x ≡ rotated_of u w → k + m ≤ 1534 → b + 3 ≤ 9 * m → Leads t e n a v (k + m) (c + (b + 3)) x
leads_on m b reach t e u {w = w} {x} {k = k} {c = c} h l ht f i j g o q = record {
  unit = rw g (turned_unit l.unit h.unit);
  turns = o;
  off = omega (arith, h.off, q);
  comes = λ d hd s. comes_on k c m b reach t e d u w (h.comes d hd s) l ht hd (f.clears i) j g o q;
}
