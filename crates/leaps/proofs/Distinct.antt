-- Directions that lie far enough apart give different points at a radius; and what counting an arc comes to. Assumes nothing.
use mathlib.Core.Path.{◌≡◌, refl, sym, ap, ◌∙◌}
use mathlib.Core.Bool.{Bool, true, false, ◌&&◌}
use mathlib.Core.List.{List, ◌++◌}
use Prim.Native.Nat.{ℕ, zero, suc, ◌+◌, ◌*◌, ◌^◌, ◌≤◌, ◌<◌}
use native.Mathlib.Omega.{arith}
use borrow.Author.Tests.{leb-true}
use lib.Dec.{leb}
use lib.IntN.{ℤ, pos, negsuc, neg_ℤ, nat_abs, ◌+ℤ◌, ◌-ℤ◌, ◌*ℤ◌}
use lib.ListN.{length, length-append}
use Rattle.whole.proofs.Signed.{up, down, ext, add_balance, up-neg, down-neg, neg_mulℤ, add_mulℤ}
use mir.Syntax.{w64}
use mir.Val.{SFits}
use Rattle.whole.specs.Sizes.{Size}
use Rattle.whole.proofs.Sizes.{abs_mul, abs_sub, size_sub, size_fits}
use Rattle.runs.specs.Runs.{Runs, spread, Room, put}
use Rattle.runs.proofs.Laws.{spread-append, runs_to, runs_then}
use Rattle.runs.proofs.Written.{written-length}
use Rattle.number.specs.MulDiv.{nearest_of, rounded_of, mul_div_of}
use Rattle.plane.specs.Vectors.{same_number, same_point}
use Rattle.plane.specs.Directions.{UnitLong, scaled_of}
use Rattle.plane.proofs.Products.{bits, back, short_fits}
use Rattle.plane.proofs.Directions.{unit_short}
use Rattle.plane.specs.declared.Point.{Point}
use Rattle.plane.specs.declared.Vector.{Vector}
use Rattle.turning.specs.Edges.{edge_numbers, edge_of}
use Rattle.turning.specs.Arcs.{turns_of}
use Rattle.turning.specs.Bounds.{Radius}
use Rattle.leaps.specs.Counts.{place_of, edge_size, Far}
use Rattle.turning.specs.declared.Edge.{Edge}
use Rattle.turning.specs.declared.Turning.{Turning}
use Rattle.turning.proofs.Limits.{radius_natural, radius_back, point_is}
use Rattle.turning.proofs.Stored.{edges_past}
use Rattle.turning.proofs.Rays.{same_is}

-- ---- how far is far enough

-- ---- numbers that are rounded to one lie no farther apart than the divisor

-- the rounded number times 2 ^ 30 lies within half of that
near : (z : ℤ) → (up z + down (rounded_of z (2 ^ 30)) * 2 ^ 30 ≤ down z + up (rounded_of z (2 ^ 30)) * 2 ^ 30 + 2 ^ 29)
    × (down z + up (rounded_of z (2 ^ 30)) * 2 ^ 30 ≤ up z + down (rounded_of z (2 ^ 30)) * 2 ^ 30 + 2 ^ 29)
unfolding rounded_of nearest_of
near (pos n) = (omega arith, omega arith)
near (negsuc n) =
    let k = pos (nearest_of (suc n) (2 ^ 30)) in
    (omega (arith, up-neg k, down-neg k), omega (arith, up-neg k, down-neg k))

-- a number that is p less q is no larger than their distance
abs_most : (w : ℤ) (p q k : ℕ) → up w + q ≡ down w + p → p ≤ q + k → q ≤ p + k → nat_abs w ≤ k
abs_most (pos n) p q k e h i = omega arith
abs_most (negsuc n) p q k e h i = omega arith

within : (x y : ℤ) → rounded_of x (2 ^ 30) ≡ rounded_of y (2 ^ 30) → nat_abs (x -ℤ y) ≤ 2 ^ 30
within x y e =
    abs_most (x -ℤ y) (up x + down y) (down x + up y) (2 ^ 30)
    (omega (arith, add_balance x (neg_ℤ y), up-neg y, down-neg y))
    (omega (arith, (near x).0, (near y).1, ap up e, ap down e))
    (omega (arith, (near x).1, (near y).0, ap up e, ap down e))

sub-mul : (a b c : ℤ) → (a -ℤ b) *ℤ c ≡ a *ℤ c -ℤ b *ℤ c
sub-mul a b c = add_mulℤ a (neg_ℤ b) c ∙ ap (λ (z : ℤ). a *ℤ c +ℤ z) (neg_mulℤ b c)

differs : (a b : ℤ) (r : ℕ) → 2 ^ 30 < nat_abs (a -ℤ b) * r → mul_div_of a (pos r) (2 ^ 30) ≡ mul_div_of b (pos r) (2 ^ 30) → ⊥
unfolding mul_div_of
differs a b r h e = omega (arith, within (a *ℤ pos r) (b *ℤ pos r) e, ap nat_abs (sub-mul a b (pos r)), abs_mul (a -ℤ b) (pos r))

-- ---- so the points differ

add_cancel : (c x y : ℤ) → c +ℤ x ≡ c +ℤ y → x ≡ y
add_cancel c x y e = ext x y (omega (arith, add_balance c x, add_balance c y, ap up e, ap down e))

placed_apart : (c a b : ℤ) (r : ℕ) → 2 ^ 30 < nat_abs (a -ℤ b) * r → same_number (c +ℤ mul_div_of a (pos r) (2 ^ 30)) (c +ℤ mul_div_of b (pos r) (2 ^ 30)) ≡ false
placed_apart c a b r h = go (same_number (c +ℤ mul_div_of a (pos r) (2 ^ 30)) (c +ℤ mul_div_of b (pos r) (2 ^ 30))) refl
  where
    go : (x : Bool) → same_number (c +ℤ mul_div_of a (pos r) (2 ^ 30)) (c +ℤ mul_div_of b (pos r) (2 ^ 30)) ≡ x → x ≡ false
    go true e = absurd (differs a b r h (add_cancel c (mul_div_of a (pos r) (2 ^ 30)) (mul_div_of b (pos r) (2 ^ 30)) (same_is _ _ e)))
    go false e = refl

pub and_false : (x : Bool) → (x && false) ≡ false
and_false true = refl
and_false false = refl

module _ (c : Point) (d e : Vector) where
  pub apart-x : (s : ℤ) (r : ℕ) → s ≡ pos r → 2 ^ 30 < nat_abs (d.x -ℤ e.x) * r → same_point (scaled_of c s d) (scaled_of c s e) ≡ false
  unfolding same_point scaled_of
  apart-x s r k h = rw k (ap (λ (t : Bool). t && same_number (c.y +ℤ mul_div_of d.y (pos r) (2 ^ 30)) (c.y +ℤ mul_div_of e.y (pos r) (2 ^ 30))) (placed_apart c.x d.x e.x r h))

  pub apart-y : (s : ℤ) (r : ℕ) → s ≡ pos r → 2 ^ 30 < nat_abs (d.y -ℤ e.y) * r → same_point (scaled_of c s d) (scaled_of c s e) ≡ false
  unfolding same_point scaled_of
  apart-y s r k h =
      rw k
      (ap (λ (t : Bool). same_number (c.x +ℤ mul_div_of d.x (pos r) (2 ^ 30)) (c.x +ℤ mul_div_of e.x (pos r) (2 ^ 30)) && t) (placed_apart c.y d.y e.y r h)
      ∙ and_false (same_number (c.x +ℤ mul_div_of d.x (pos r) (2 ^ 30)) (c.x +ℤ mul_div_of e.x (pos r) (2 ^ 30))))

-- from what the code has computed on bits: t is the test of a component
module _ (c : Point) (s : ℤ) (d e : Vector) (l : ℕ) {t : Bool} (k : Radius s) (hd : UnitLong d) (he : UnitLong e) (f : Far (nat_abs s) l) where
  pub told_x : t ≡ leb l (nat_abs (bits d.x -ℤ bits e.x)) → t ≡ true → false ≡ same_point (scaled_of c s d) (scaled_of c s e)
  told_x g i =
      let hx = (unit_short hd).x in
      let kx = (unit_short he).x in
      let j : leb l (nat_abs (d.x -ℤ e.x)) ≡ true = sym (rw (back (short_fits hx), back (short_fits kx)) at g) ∙ i in
      sym (apart-x c d e s (nat_abs s) (sym (radius_natural k)) (f.far (nat_abs (d.x -ℤ e.x)) (leb-true l _ j) (omega (arith, abs_sub d.x e.x, hx.size, kx.size))))

  pub told_y : t ≡ leb l (nat_abs (bits d.y -ℤ bits e.y)) → t ≡ true → false ≡ same_point (scaled_of c s d) (scaled_of c s e)
  told_y g i =
      let hy = (unit_short hd).y in
      let ky = (unit_short he).y in
      let j : leb l (nat_abs (d.y -ℤ e.y)) ≡ true = sym (rw (back (short_fits hy), back (short_fits ky)) at g) ∙ i in
      sym (apart-y c d e s (nat_abs s) (sym (radius_natural k)) (f.far (nat_abs (d.y -ℤ e.y)) (leb-true l _ j) (omega (arith, abs_sub d.y e.y, hy.size, ky.size))))

-- ---- what an edge adds to the position, and edges before others

pub edge_size_lem : (p q : Point) {b : Bool} → b ≡ same_point p q → length (spread edge_numbers (edge_of p q)) ≡ edge_size b
unfolding edge_of edge_size spread edge_numbers
edge_size_lem p q {b} e = go b e
  where
    go : (x : Bool) → x ≡ same_point p q → length (spread edge_numbers (edge_of p q)) ≡ edge_size x
    go true f = rw (← f, edge_of)
    go false f = rw (← f, edge_of)

pub sizes_add : (es fs : List Edge) → length (spread edge_numbers (es ++ fs)) ≡ length (spread edge_numbers es) + length (spread edge_numbers fs)
sizes_add es fs = ap length (spread-append edge_numbers es fs) ∙ length-append (spread edge_numbers es) (spread edge_numbers fs)

pub size_none : {b : Bool} → b ≡ true → edge_size b ≡ 0
unfolding edge_size
size_none e = ap edge_size e

pub size_some : {b : Bool} → b ≡ false → edge_size b ≡ 4
unfolding edge_size
size_some e = ap edge_size e

-- ---- from what the code has computed

some_left : (r : ℕ) → (r ≡ 0 → ⊥) → 0 < r
some_left zero h = absurd (h refl)
some_left (suc r) h = omega arith

pub far_back : (s : ℤ) {l : ℕ} → Radius s → Far (nat_abs (bits s)) l → Far (nat_abs s) l
far_back s k f = rw (radius_back k) at f

pub gap_fits : {a b : ℤ} → Size (2 ^ 30) a → Size (2 ^ 30) b → SFits w64 (a -ℤ b)
gap_fits h k = size_fits (2 ^ 31) w64 _ (size_sub (2 ^ 30) (2 ^ 30) _ _ h k) tt

-- p and q are points as the code has them, b its test of them
pub same_places : (r : Turning) (d e : Vector) {p q : Point} {b : Bool} → Radius r.radius → p ≡ scaled_of r.centre (bits r.radius) d → q ≡ scaled_of r.centre (bits r.radius) e → b ≡ same_point p q
    → b ≡ same_point (place_of r d) (place_of r e)
same_places r d e k f g h = h ∙ (λ i. same_point (point_is r.centre d k f i) (point_is r.centre e k g i))

pub last_size : (r : Turning) (d : Vector) {q : Point} {b : Bool} → Radius r.radius → q ≡ scaled_of r.centre (bits r.radius) d → b ≡ same_point q r.to
    → length (spread edge_numbers (edge_of (place_of r d) r.to)) ≡ edge_size b
last_size r d k f h = edge_size_lem (place_of r d) r.to (h ∙ ap (λ p. same_point p r.to) (point_is r.centre d k f))

-- ---- a count: from the position n the edges es are still to come, as from m the edges fs were

pub record Counts (n : ℕ) (es : List Edge) (m : ℕ) (fs : List Edge) : Type 0 where
  pub alike : n + length (spread edge_numbers es) ≡ m + length (spread edge_numbers fs)

module _ {n m : ℕ} {es fs : List Edge} (h : Counts n es m fs) where
  pub count_as : {gs : List Edge} → es ≡ gs → Counts n gs m fs
  count_as e = rw e at h

  pub count_room : Room edge_numbers m fs → Room edge_numbers n es
  count_room r = record { fits = omega (arith, h.alike, r.fits) }

  pub count_done : {k : ℕ} → k ≡ n + length (spread edge_numbers es) → k ≡ m + length (spread edge_numbers fs)
  count_done e = e ∙ h.alike

  -- an edge is passed; b tells whether its ends are one
  pub step_room : (p q : Point) (ys : List Edge) {b : Bool} → es ≡ edge_of p q ++ ys → b ≡ same_point p q → Room edge_numbers m fs → n + edge_size b < 2 ^ 64
  step_room p q ys e f r = omega (arith, h.alike, ap (λ gs. length (spread edge_numbers gs)) e, sizes_add (edge_of p q) ys, edge_size_lem p q f, r.fits)

  pub step_count : (p q : Point) (ys : List Edge) {b : Bool} {k : ℕ} → es ≡ edge_of p q ++ ys → b ≡ same_point p q → k ≡ n + edge_size b → Counts k ys m fs
  step_count p q ys e f g = record { alike = omega (arith, h.alike, ap (λ gs. length (spread edge_numbers gs)) e, sizes_add (edge_of p q) ys, edge_size_lem p q f, g) }

-- ---- a run past the room: its first edge, and the rest only counted

pub past_then : {l m : List ℤ} {at n k : ℕ} (es fs : List Edge) → length l ≤ at → Runs put edge_numbers l at es m n → k ≡ n + length (spread edge_numbers fs) → Runs put edge_numbers l at (es ++ fs) m k
past_then {l} {m} {at} {n} es fs h p e =
    let long : length m ≤ n = omega (arith, written-length p, p.pos) in
    runs_to e (runs_then p (edges_past fs long))

-- q is the point in the direction v, as the code has it
pub counted_at : (r : Turning) (v : Vector) (n : ℕ) {q : Point} {k : ℕ} → q ≡ place_of r v → k ≡ n + length (spread edge_numbers (turns_of 1535 r v (place_of r v))) → k ≡ n + length (spread edge_numbers (turns_of 1535 r v q))
counted_at r v n e f = f ∙ ap (λ p. n + length (spread edge_numbers (turns_of 1535 r v p))) (sym e)
