-- What the limits leave of vertices and sections: what the functions below the calls ask for.
use Rattle.std.specs.Prelude.{◌^◌, Option, Some, None}
use Rattle.whole.specs.Sizes.{Size}
use Rattle.plane.specs.declared.Vector.{Vector}
use Rattle.turning.specs.Bounds.{Radius, About}
use Rattle.contacts.specs.Contacts.{centre_of}
use Rattle.contacts.specs.declared.Vertex.{Vertex}
use Rattle.contacts.specs.declared.Section.{Section}

-- a vertex within the limits
pub record Inside (v : Vertex) : Type 0 where
  pub x : Size (2 ^ 28) v.x
  pub y : Size (2 ^ 28) v.y
  pub radius : Radius v.radius

-- the way from one such vertex to another
pub record Line (v : Vector) : Type 0 where
  pub x : Size (2 ^ 29) v.x
  pub y : Size (2 ^ 29) v.y

-- a section of such vertices, each contact about its centre
pub record Around (s : Section) : Type 0 where
  pub a : Inside s.a
  pub b : Inside s.b
  pub left_a : About (centre_of s.a) s.left.a
  pub left_b : About (centre_of s.b) s.left.b
  pub right_a : About (centre_of s.a) s.right.a
  pub right_b : About (centre_of s.b) s.right.b

-- the section that may be held
unfoldable pub AroundLast : Option Section → Type 0
AroundLast None = Unit {0}
AroundLast (Some s) = Around s
