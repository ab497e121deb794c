-- Document 01, "Chains": covering (`covers_circle`).
use Rattle.std.specs.Prelude.{Bool, true, false, not, ◌&&◌, ℤ, pos, neg_ℤ, ◌*ℤ◌, Option, Some, None}
use Rattle.std.specs.Int.Signed.{le_z, lt_z}
use Rattle.number.specs.Root.{root_up_of}
use Rattle.plane.specs.Vectors.{same_number, from_to, cross_of, square_of}
use Rattle.plane.specs.declared.Point.{Point}
use Rattle.contacts.specs.Contacts.{centre_of, larger_of}
use Rattle.contacts.specs.declared.Vertex.{Vertex}
use Rattle.contacts.specs.declared.Section.{Section}

-- The quadrilateral is a_left, b_left, b_right, a_right: its turn at the second corner.
unfoldable pub turn_of : Section → ℤ
turn_of s = cross_of (from_to s.left.a s.left.b) (from_to s.left.b s.right.b)

-- a cross product counted inwards, for a quadrilateral that turns as `turn` says
unfoldable pub inward_of : ℤ → ℤ → ℤ
inward_of turn z = elim (lt_z turn (pos 0)) [ true ↦ neg_ℤ z | false ↦ z ]

-- For a side, from p to q: the inward cross product is at least radius times the side's length rounded up.
unfoldable pub inside_of : ℤ → Vertex → Point → Point → Bool
inside_of turn b p q = le_z (b.radius *ℤ pos (root_up_of (square_of (from_to p q)))) (inward_of turn (cross_of (from_to p q) (from_to p (centre_of b))))

-- A zero turn covers nothing; else the circle lies inside each of the four sides.
unfoldable pub covers_of : Section → Vertex → Bool
covers_of s b =
    not (same_number (turn_of s) (pos 0))
    && inside_of (turn_of s) b s.left.a s.left.b
    && inside_of (turn_of s) b s.left.b s.right.b
    && inside_of (turn_of s) b s.right.b s.right.a
    && inside_of (turn_of s) b s.right.a s.left.a

-- The larger radius of the previous step exceeds rb, and the previous step was drawn and its quadrilateral covers b's circle.
unfoldable pub covered_of : Option Section → Vertex → Bool
covered_of None b = false
covered_of (Some s) b = lt_z b.radius (larger_of s.a s.b) && covers_of s b
