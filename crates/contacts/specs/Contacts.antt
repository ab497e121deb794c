-- Document 01, "Contacts" and "Three kinds of step". Document 02, request 7: whether contacts are exact.
use Rattle.std.specs.Prelude.{Bool, true, false, ◌&&◌, ℕ, ◌-◌, ◌*◌, ◌/◌, ◌^◌, leb, ℤ, pos, neg_ℤ, nat_abs, ◌+ℤ◌, ◌-ℤ◌, ◌*ℤ◌}
use Rattle.std.specs.Int.Count.{count_leading_zeros}
use Rattle.std.specs.Int.Signed.{le_z, lt_z}
use Rattle.number.specs.Root.{root_of}
use Rattle.number.specs.MulDiv.{mul_div_of, exact_of}
use Rattle.plane.specs.Vectors.{from_to, square_of}
use Rattle.plane.specs.declared.Point.{Point}
use Rattle.plane.specs.declared.Vector.{Vector}
use Rattle.turning.specs.declared.Edge.{Edge}
use Rattle.contacts.specs.declared.Vertex.{Vertex}
use Rattle.contacts.specs.declared.Trend.{Trend}
use Rattle.contacts.specs.declared.Trend.TheVariants.{Decreasing, Constant, Increasing}
use Rattle.contacts.specs.declared.Exactness.{Exactness}
use Rattle.contacts.specs.declared.Section.{Section}
use Rattle.contacts.specs.declared.Kind.{Kind}
use Rattle.contacts.specs.declared.Kind.TheVariants.{Broken, Drawn, Thin}

-- the point of a vertex
unfoldable pub centre_of : Vertex → Point
centre_of v = record { x = v.x; y = v.y }

-- With v = b - a, delta = ra - rb (sq is `square_of` v).
unfoldable pub line_of : Vertex → Vertex → Vector
line_of a b = from_to (centre_of a) (centre_of b)

unfoldable pub delta_of : Vertex → Vertex → ℤ
delta_of a b = a.radius -ℤ b.radius

-- The shift is (leading zeros of sq in 64 bits, less 1) / 2, rounded down.
unfoldable pub shift_of : ℕ → ℕ
shift_of sq = (count_leading_zeros 64 sq - 1) / 2

-- The tangent is the integer root of (sq - delta²)·4^shift.
unfoldable pub tangent_of : ℕ → ℤ → ℕ
tangent_of sq delta = root_of ((sq - nat_abs delta * nat_abs delta) * 4 ^ shift_of sq)

-- Left numerator: delta·v·2^shift + tangent·(-v.y, v.x). Right: the same with the tangent term negated.
unfoldable pub numerator_of : Vector → ℤ → ℕ → ℤ → Vector
numerator_of v delta shift tangent = record {
  x = delta *ℤ v.x *ℤ pos (2 ^ shift) -ℤ tangent *ℤ v.y;
  y = delta *ℤ v.y *ℤ pos (2 ^ shift) +ℤ tangent *ℤ v.x;
}

-- Each contact is its centre plus mul_div(radius, numerator, sq·2^shift).
unfoldable pub contact_of : ℕ → Vector → Vertex → Point
contact_of divisor n v = record { x = v.x +ℤ mul_div_of v.radius n.x divisor; y = v.y +ℤ mul_div_of v.radius n.y divisor }

-- the contacts of a and of b on one side, with that side's tangent
unfoldable pub side_of : Vertex → Vertex → ℤ → Edge
side_of a b tangent =
    let v = line_of a b in
    let s = shift_of (square_of v) in
    let n = numerator_of v (delta_of a b) s tangent in
    let d : ℕ = square_of v * 2 ^ s in
    record { a = contact_of d n a; b = contact_of d n b }

-- Document 02, request 7: a contact is exact when both components came out even. It is about the division only; a root that was cut short doesn't clear it.
unfoldable pub contact_exact : ℕ → Vector → Vertex → Bool
contact_exact divisor n v = exact_of v.radius n.x divisor && exact_of v.radius n.y divisor

-- the same of the contacts of a and of b on one side
unfoldable pub side_exact : Vertex → Vertex → ℤ → Exactness
side_exact a b tangent =
    let v = line_of a b in
    let s = shift_of (square_of v) in
    let n = numerator_of v (delta_of a b) s tangent in
    let d : ℕ = square_of v * 2 ^ s in
    record { a = contact_exact d n a; b = contact_exact d n b }

-- Trend is decreasing, constant or increasing as ra is above, equal to or below rb.
unfoldable pub trend_of : Vertex → Vertex → Trend
trend_of a b = elim (lt_z b.radius a.radius) [ true ↦ Decreasing | false ↦ elim (lt_z a.radius b.radius) [ true ↦ Increasing | false ↦ Constant ] ]

unfoldable pub section_of : Vertex → Vertex → Section
section_of a b =
    let t = tangent_of (square_of (line_of a b)) (delta_of a b) in
    record {
      a = a;
      b = b;
      left = side_of a b (pos t);
      right = side_of a b (neg_ℤ (pos t));
      trend = trend_of a b;
      exact = record { left = side_exact a b (pos t); right = side_exact a b (neg_ℤ (pos t)) };
    }

-- ---- Three kinds of step

unfoldable pub larger_of : Vertex → Vertex → ℤ
larger_of a b = elim (lt_z a.radius b.radius) [ true ↦ b.radius | false ↦ a.radius ]

-- From vertex a to b: broken if delta² ≥ sq (equal points always).
unfoldable pub broken_of : Vertex → Vertex → Bool
broken_of a b = leb (square_of (line_of a b)) (nat_abs (delta_of a b) * nat_abs (delta_of a b))

-- Else drawn if the larger radius is at least 2; else thin.
unfoldable pub kind_of : Vertex → Vertex → Kind
kind_of a b = elim (broken_of a b) [ true ↦ Broken | false ↦ elim (le_z (pos 2) (larger_of a b)) [ true ↦ Drawn | false ↦ Thin ] ]
