-- What the limits leave of a kerb's points and sections.
use Rattle.std.specs.Prelude.{◌≡◌, ◌<◌, true, false, List, [], ◌∷◌, pos, Option, Some, None}
use Rattle.std.specs.Int.Signed.{le_z}
use Rattle.plane.specs.Vectors.{from_to, square_of}
use Rattle.plane.specs.declared.Point.{Point}
use Rattle.turning.specs.Bounds.{Radius, About}
use Rattle.contacts.specs.Contacts.{centre_of}
use Rattle.contacts.specs.Bounds.{Inside, Around}
use Rattle.contacts.specs.declared.Vertex.{Vertex}
use Rattle.contacts.specs.declared.Section.{Section}
use Rattle.kerb.specs.declared.Style.{Style}
use Rattle.kerb.specs.declared.Span.{Span}

-- a point about a centre, and not that centre
pub record OffCentre (c p : Point) : Type 0 where
  pub about : About c p
  pub some : 0 < square_of (from_to c p)

-- a style within the limits, that draws
pub record Styled (y : Style) : Type 0 where
  pub radius : Radius y.radius
  pub draws : le_z y.radius (pos 1) ≡ false

-- a point of a kerb, within the limits
pub record KerbPoint (y : Style) (v : Vertex) : Type 0 where
  pub inside : Inside v
  pub radius : v.radius ≡ y.radius

-- a section within the limits, no contact of which is its centre
pub record Clear (s : Section) : Type 0 where
  pub around : Around s
  pub left_a : OffCentre (centre_of s.a) s.left.a
  pub left_b : OffCentre (centre_of s.b) s.left.b
  pub right_a : OffCentre (centre_of s.a) s.right.a
  pub right_b : OffCentre (centre_of s.b) s.right.b

-- a section goes on from the last one
unfoldable pub Joins : Option Span → Section → Type 0
Joins None s = Unit {0}
Joins (Some p) s = Clear p.last × (centre_of p.last.b ≡ centre_of s.a)

-- the last section span at a
unfoldable pub Joining : Vertex → Option Span → Type 0
Joining a None = Unit {0}
Joining a (Some p) = Clear p.last × (p.last.b ≡ a)

-- the first one goes on from the last one, if the kerb closes
unfoldable pub Closes : Style → Option Span → Type 0
Closes y None = Unit {0}
Closes y (Some p) = Clear p.first × Clear p.last × (y.closed ≡ true → centre_of p.last.b ≡ centre_of p.first.a)

unfoldable pub Capped : Option Span → Type 0
Capped None = Unit {0}
Capped (Some p) = Clear p.first × Clear p.last

-- points of a kerb, one after another
unfoldable pub KerbPoints : Style → List Vertex → Type 0
KerbPoints y [] = Unit {0}
KerbPoints y (v ∷ vs) = KerbPoint y v × KerbPoints y vs
