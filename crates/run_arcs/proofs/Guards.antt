-- What the tests of a case's numbers tell of vertices; and that no answer has so many edges that their count wraps. Assumes nothing.
use Rattle.std.proofs.Common.{Bool, true, ◌≡◌, sym, ◌∙◌, arith, ℕ, ◌≤◌, List}
use Rattle.runs.specs.Runs.{Room}
use Rattle.turning.specs.Edges.{edge_numbers}
use Rattle.turning.specs.Bounds.{Most, Centre}
use Rattle.turning.proofs.Most.{edges_four}
use Rattle.turning.specs.declared.Edge.{Edge}
use Rattle.contacts.specs.Contacts.{centre_of}
use Rattle.contacts.specs.Limits.{allowed_of}
use Rattle.contacts.specs.Bounds.{Inside}
use Rattle.contacts.proofs.Allowed.{inside_of_lem}
use Rattle.contacts.proofs.Contacts.{centre_is}
use Rattle.plane.specs.declared.Point.{Point}
use Rattle.contacts.specs.declared.Vertex.{Vertex}

-- ---- tests

pub inside_told : {v : Vertex} {r : Bool} → r ≡ allowed_of v → r ≡ true → Inside v
inside_told e f = inside_of_lem (sym e ∙ f)

pub centre_told : {v : Vertex} {c : Point} → c ≡ centre_of v → Inside v → Centre c
centre_told e h = rw e (centre_is h)

-- ---- room for as many edges as a join can have

pub few_room : {n : ℕ} {es : List Edge} → n ≤ 6150 → Most n es → Room edge_numbers 0 es
few_room {es = es} h k = record { fits = omega (arith, edges_four es, k.most) }
