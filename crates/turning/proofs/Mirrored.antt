-- Half a turn about its centre takes an arc to one with as many edges, and a circle's first arc to its second. Assumes nothing.
use mathlib.Core.Path.{◌≡◌, refl, sym, ap, ◌∙◌}
use mathlib.Core.Bool.{Bool, true, false}
use mathlib.Core.List.{List, ◌++◌}
use Prim.Native.Nat.{ℕ, zero, suc, ◌+◌, ◌-◌, ◌/◌, ◌^◌, ◌≤◌}
use native.Mathlib.Numerals.{sub-one}
use native.Mathlib.Omega.{arith}
use lib.IntN.{ℤ, pos, negsuc, neg_ℤ, ◌+ℤ◌, ◌-ℤ◌, ◌*ℤ◌, neg_ℤ-neg_ℤ, neg_ℤ-+ℤ}
use lib.ListN.{length, length-append}
use lib.Signed.{quot_z, le_z}
use Rattle.whole.proofs.Signed.{up, down, ext, add_balance, up-neg, down-neg, neg_mulℤ, mul_negℤ}
use Rattle.runs.specs.Runs.{Runs, spread, put}
use Rattle.runs.proofs.Laws.{spread-append, spread-length}
use Rattle.runs.proofs.Written.{written-length}
use Rattle.number.specs.MulDiv.{nearest_of, rounded_of, mul_div_of}
use Rattle.plane.specs.Vectors.{same_number, same_point, cross_of, dot_of}
use Rattle.plane.specs.Directions.{rotated_of, scaled_of}
use Rattle.plane.specs.declared.Point.{Point}
use Rattle.plane.specs.declared.Vector.{Vector}
use Rattle.turning.specs.Edges.{edge_numbers, edge_of}
use Rattle.turning.specs.Arcs.{near_of, stops_of, turns_of, swept_of, east_of, west_of}
use Rattle.turning.specs.declared.Edge.{Edge}
use Rattle.turning.specs.declared.Turning.{Turning}
use Rattle.turning.proofs.Rays.{same_self, same_is, eastward_told, westward_told}
use Rattle.turning.proofs.Stored.{edges_past}
use Rattle.turning.proofs.Cases.{turns_stop, turns_go, swept_turns}

-- ---- numbers and their negatives

both_minus : (a b : ℤ) → neg_ℤ a *ℤ neg_ℤ b ≡ a *ℤ b
both_minus a b = neg_mulℤ a (neg_ℤ b) ∙ ap neg_ℤ (mul_negℤ a b) ∙ neg_ℤ-neg_ℤ (a *ℤ b)

minus-sub : (a b : ℤ) → neg_ℤ a -ℤ neg_ℤ b ≡ neg_ℤ (a -ℤ b)
minus-sub a b = sym (neg_ℤ-+ℤ a (neg_ℤ b))

quot_minus : (z : ℤ) → quot_z (neg_ℤ z) (pos (2 ^ 30)) ≡ neg_ℤ (quot_z z (pos (2 ^ 30)))
quot_minus (pos zero) = refl
quot_minus (pos (suc n)) = refl
quot_minus (negsuc n) = sym (neg_ℤ-neg_ℤ (pos (suc n / 2 ^ 30)))

rounded_minus : (z : ℤ) → rounded_of (neg_ℤ z) (2 ^ 30) ≡ neg_ℤ (rounded_of z (2 ^ 30))
unfolding rounded_of nearest_of
rounded_minus (pos zero) = refl
rounded_minus (pos (suc n)) = refl
rounded_minus (negsuc n) = sym (neg_ℤ-neg_ℤ (pos (nearest_of (suc n) (2 ^ 30))))

scaled_minus : (d r : ℤ) → mul_div_of (neg_ℤ d) r (2 ^ 30) ≡ neg_ℤ (mul_div_of d r (2 ^ 30))
unfolding mul_div_of
scaled_minus d r = ap (λ (z : ℤ). rounded_of z (2 ^ 30)) (neg_mulℤ d r) ∙ rounded_minus (d *ℤ r)

-- ---- half a turn of a vector, and of a point about a centre

abbrev pub minus : Vector → Vector
minus v = record { x = neg_ℤ v.x; y = neg_ℤ v.y }

abbrev across : Point → Point → Point
across c p = record { x = c.x +ℤ c.x -ℤ p.x; y = c.y +ℤ c.y -ℤ p.y }

cross_minus : (u v : Vector) → cross_of (minus u) (minus v) ≡ cross_of u v
unfolding cross_of
cross_minus u v = rw (both_minus u.x v.y, both_minus u.y v.x)

dot_minus : (u v : Vector) → dot_of (minus u) (minus v) ≡ dot_of u v
unfolding dot_of
dot_minus u v = rw (both_minus u.x v.x, both_minus u.y v.y)

stops_minus : (d n e : Vector) → stops_of (minus d) (minus n) (minus e) ≡ stops_of d n e
unfolding stops_of near_of
stops_minus d n e = rw (cross_minus n e, cross_minus d e, dot_minus d e)

quot_sub : (a b x y : ℤ) → quot_z (a *ℤ neg_ℤ x -ℤ b *ℤ neg_ℤ y) (pos (2 ^ 30)) ≡ neg_ℤ (quot_z (a *ℤ x -ℤ b *ℤ y) (pos (2 ^ 30)))
quot_sub a b x y = ap (λ (z : ℤ). quot_z z (pos (2 ^ 30))) ((λ i. mul_negℤ a x i -ℤ mul_negℤ b y i) ∙ minus-sub (a *ℤ x) (b *ℤ y)) ∙ quot_minus (a *ℤ x -ℤ b *ℤ y)

quot_add : (a b x y : ℤ) → quot_z (a *ℤ neg_ℤ x +ℤ b *ℤ neg_ℤ y) (pos (2 ^ 30)) ≡ neg_ℤ (quot_z (a *ℤ x +ℤ b *ℤ y) (pos (2 ^ 30)))
quot_add a b x y = ap (λ (z : ℤ). quot_z z (pos (2 ^ 30))) ((λ i. mul_negℤ a x i +ℤ mul_negℤ b y i) ∙ sym (neg_ℤ-+ℤ (a *ℤ x) (b *ℤ y))) ∙ quot_minus (a *ℤ x +ℤ b *ℤ y)

pub rotated_minus : (t v : Vector) → rotated_of t (minus v) ≡ minus (rotated_of t v)
unfolding rotated_of
rotated_minus t v = λ i. record { x = quot_sub t.x t.y v.x v.y i; y = quot_add t.y t.x v.x v.y i }

fold : (c m : ℤ) → c +ℤ neg_ℤ m ≡ c +ℤ c -ℤ (c +ℤ m)
fold c m = ext _ _ (omega (arith, add_balance c (neg_ℤ m), add_balance (c +ℤ c) (neg_ℤ (c +ℤ m)), add_balance c c, add_balance c m, up-neg m, down-neg m, up-neg (c +ℤ m), down-neg (c +ℤ m)))

unfold_back : (c m : ℤ) → c +ℤ m ≡ c +ℤ c -ℤ (c -ℤ m)
unfold_back c m = ext _ _ (omega (arith, add_balance c m, add_balance (c +ℤ c) (neg_ℤ (c -ℤ m)), add_balance c c, add_balance c (neg_ℤ m), up-neg m, down-neg m, up-neg (c -ℤ m), down-neg (c -ℤ m)))

own : (c : ℤ) → c ≡ c +ℤ c -ℤ c
own c = ext _ _ (omega (arith, add_balance (c +ℤ c) (neg_ℤ c), add_balance c c, up-neg c, down-neg c))

placed_across : (c d r : ℤ) → c +ℤ mul_div_of (neg_ℤ d) r (2 ^ 30) ≡ c +ℤ c -ℤ (c +ℤ mul_div_of d r (2 ^ 30))
placed_across c d r = ap (λ (z : ℤ). c +ℤ z) (scaled_minus d r) ∙ fold c (mul_div_of d r (2 ^ 30))

point_across : (c : Point) (r : ℤ) (d : Vector) → scaled_of c r (minus d) ≡ across c (scaled_of c r d)
unfolding scaled_of
point_across c r d = λ i. record { x = placed_across c.x d.x r i; y = placed_across c.y d.y r i }

-- ---- points fall together where they did

cancel : (c a b : ℤ) → c -ℤ a ≡ c -ℤ b → a ≡ b
cancel c a b e =
    ext a b (omega (arith, add_balance c (neg_ℤ a), add_balance c (neg_ℤ b), up-neg a, down-neg a, up-neg b, down-neg b, ap up e, ap down e))

same_number_lem : (c a b : ℤ) → same_number (c -ℤ a) (c -ℤ b) ≡ same_number a b
same_number_lem c a b = go (same_number a b) refl (same_number (c -ℤ a) (c -ℤ b)) refl
  where
    go : (x : Bool) → same_number a b ≡ x → (y : Bool) → same_number (c -ℤ a) (c -ℤ b) ≡ y → y ≡ x
    go true e true f = refl
    go false e false f = refl
    go true e false f = sym f ∙ ap (λ (z : ℤ). same_number (c -ℤ a) (c -ℤ z)) (sym (same_is a b e)) ∙ same_self (c -ℤ a)
    go false e true f = sym (same_self a) ∙ ap (λ (z : ℤ). same_number a z) (cancel c a b (same_is (c -ℤ a) (c -ℤ b) f)) ∙ e

same_across : (c p q : Point) → same_point (across c p) (across c q) ≡ same_point p q
unfolding same_point
same_across c p q = rw (same_number_lem (c.x +ℤ c.x) p.x q.x, same_number_lem (c.y +ℤ c.y) p.y q.y)

edge_across : (c p q : Point) → length (edge_of (across c p) (across c q)) ≡ length (edge_of p q)
unfolding edge_of
edge_across c p q = go (same_point p q) refl
  where
    go : (x : Bool) → same_point p q ≡ x → length (edge_of (across c p) (across c q)) ≡ length (edge_of p q)
    go true e = rw (same_across c p q, e, edge_of)
    go false e = rw (same_across c p q, e, edge_of)

-- ---- an arc

abbrev opposite : Turning → Turning
opposite r = record { step = r.step; centre = r.centre; radius = r.radius; to = across r.centre r.to; toward = minus r.toward }

-- one rotation more: n is the direction reached, q the point
module _ (k : ℕ) (r : Turning) (d n : Vector) (p q : Point) (e : n ≡ rotated_of r.step d) (f : q ≡ scaled_of r.centre r.radius n) where
  turned : minus n ≡ rotated_of r.step (minus d)
  turned = ap minus e ∙ sym (rotated_minus r.step d)

  moved : across r.centre q ≡ scaled_of r.centre r.radius (minus n)
  moved = ap (across r.centre) f ∙ sym (point_across r.centre r.radius n)

  across_stop : stops_of d n r.toward ≡ true → length (turns_of (suc k) (opposite r) (minus d) (across r.centre p)) ≡ length (turns_of (suc k) r d p)
  across_stop g =
      ap length (turns_stop (suc k) (opposite r) (minus d) (across r.centre p) (omega arith) turned (sym (stops_minus d n r.toward ∙ g)) refl)
      ∙ edge_across r.centre p r.to
      ∙ sym (ap length (turns_stop (suc k) r d p (omega arith) e (sym g) refl))

  across_go : stops_of d n r.toward ≡ false → length (turns_of (suc k - 1) (opposite r) (minus n) (across r.centre q)) ≡ length (turns_of (suc k - 1) r n q)
      → length (turns_of (suc k) (opposite r) (minus d) (across r.centre p)) ≡ length (turns_of (suc k) r d p)
  across_go g h =
      ap length (turns_go (suc k) (opposite r) (minus d) (across r.centre p) (omega arith) turned (sym (stops_minus d n r.toward ∙ g)) refl moved)
      ∙ length-append (edge_of (across r.centre p) (across r.centre q)) (turns_of (suc k - 1) (opposite r) (minus n) (across r.centre q))
      ∙ (λ i. edge_across r.centre p q i + h i)
      ∙ sym (length-append (edge_of p q) (turns_of (suc k - 1) r n q))
      ∙ sym (ap length (turns_go (suc k) r d p (omega arith) e (sym g) refl f))

turns_across : (k : ℕ) (r : Turning) (d : Vector) (p : Point) → length (turns_of k (opposite r) (minus d) (across r.centre p)) ≡ length (turns_of k r d p)
unfolding turns_of
turns_across zero r d p = edge_across r.centre p r.to
turns_across (suc k) r d p =
    let n = rotated_of r.step d in
    let q = scaled_of r.centre r.radius n in
    go n q (rw sub-one (turns_across k r n q)) refl refl (stops_of d n r.toward) refl
  where
    go : (n : Vector) (q : Point) → length (turns_of (suc k - 1) (opposite r) (minus n) (across r.centre q)) ≡ length (turns_of (suc k - 1) r n q) → n ≡ rotated_of r.step d → q ≡ scaled_of r.centre r.radius n
        → (x : Bool) → stops_of d n r.toward ≡ x → length (turns_of (suc k) (opposite r) (minus d) (across r.centre p)) ≡ length (turns_of (suc k) r d p)
    go n q h e f true g = across_stop k r d n p q e f g
    go n q h e f false g = across_go k r d n p q e f g h

-- by other names
turns_opposite : (k : ℕ) (r s : Turning) (d u : Vector) (p q : Point) → s ≡ opposite r → u ≡ minus d → q ≡ across r.centre p → length (turns_of k s u q) ≡ length (turns_of k r d p)
turns_opposite k r s d u p q e f g = rw (e, f, g) (turns_across k r d p)

-- ---- a circle: e and w are its ends

west-across : (c : Point) (r : ℤ) → west_of c r ≡ across c (east_of c r)
unfolding east_of west_of
west-across c r = λ i. record { x = fold c.x r i; y = own c.y i }

east-across : (c : Point) (r : ℤ) → east_of c r ≡ across c (west_of c r)
unfolding east_of west_of
east-across c r = λ i. record { x = unfold_back c.x r i; y = own c.y i }

abbrev east : Vector
east = record { x = pos (2 ^ 30); y = pos 0 }

abbrev west : Vector
west = record { x = neg_ℤ (pos (2 ^ 30)); y = pos 0 }

halves : (t : Vector) (c : Point) (r : ℤ) → le_z r (pos 1) ≡ false → length (swept_of t c r (west_of c r) (east_of c r)) ≡ length (swept_of t c r (east_of c r) (west_of c r))
halves t c r h =
    ap length (swept_turns t c r (west_of c r) (east_of c r) refl refl refl (westward_told c r h refl) (eastward_told c r h refl))
    ∙ turns_opposite 1536
    (record { step = t; centre = c; radius = r; to = west_of c r; toward = west })
    (record { step = t; centre = c; radius = r; to = east_of c r; toward = east })
    east
    west
    (east_of c r)
    (west_of c r)
    (λ i. record { step = t; centre = c; radius = r; to = east-across c r i; toward = east })
    refl
    (west-across c r)
    ∙ sym (ap length (swept_turns t c r (east_of c r) (west_of c r) refl refl refl (eastward_told c r h refl) (westward_told c r h refl)))

pub halves_alike : (t : Vector) (c : Point) (r : ℤ) {e w : Point} → le_z r (pos 1) ≡ false → e ≡ east_of c r → w ≡ west_of c r → length (swept_of t c r w e) ≡ length (swept_of t c r e w)
halves_alike t c r h f g = rw (f, g) (halves t c r h)

-- so where the first is only counted, the second is counted by it
pub counted_twice : {l m : List ℤ} {at n : ℕ} (es fs : List Edge) → length m ≤ at → length fs ≡ length es → Runs put edge_numbers l at es m n → Runs put edge_numbers l at (es ++ fs) m (n + (n - at))
unfolding edge_numbers
counted_twice {l} {m} {at} {n} es fs k e p =
    let h : length l ≤ at = omega (arith, written-length p) in
    let same : m ≡ l = p.out ∙ sym (edges_past es h).out in
    let first = spread-length edge_numbers 4 (λ x. refl) es in
    let second = spread-length edge_numbers 4 (λ x. refl) fs in
    record {
      out = same ∙ (edges_past (es ++ fs) h).out;
      pos = omega (arith, p.pos, first, second, e, ap length (spread-append edge_numbers es fs), length-append (spread edge_numbers es) (spread edge_numbers fs));
    }
