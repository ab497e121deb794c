-- Document 02, request 3: a kerb's points in lent numbers, and the way over them.
use Rattle.std.specs.Prelude.{◌≡◌, Bool, true, false, List, [], ◌∷◌, ◌++◌, ℕ, ◌-◌, ◌≤◌, ◌<◌, ℤ, length, get_or}
use Rattle.contacts.specs.Limits.{first_outside}
use Rattle.contacts.specs.declared.Vertex.{Vertex}
use Rattle.kerb.specs.Kerbs.{back_to}
use Rattle.kerb.specs.Bounds.{Styled}
use Rattle.kerb.specs.declared.Style.{Style}
use Rattle.paths.specs.Paths.{none}

-- A path is pairs: each point a vertex with the style's radius; what is left over is none.
unfoldable pub kerb_path : ℤ → List ℤ → List Vertex
kerb_path r [] = []
kerb_path r (x ∷ []) = []
kerb_path r (x ∷ y ∷ l) = record { x = x; y = y; radius = r } ∷ kerb_path r l

unfoldable pub first_of : List Vertex → Vertex
first_of vs = get_or vs 0 none

-- the points after the first, and the first again if the kerb closes
unfoldable pub way_of : Style → List Vertex → List Vertex
way_of y [] = []
way_of y (v ∷ vs) = vs ++ back_to y.closed v

unfoldable pub way_count : Bool → ℕ → ℕ
way_count true n = n
way_count false n = n - 1

-- points lent, within the limits, over which a kerb draws: n of them
pub record Lent (y : Style) (l : List ℤ) (n : ℕ) : Type 0 where
  pub count : n ≡ length (kerb_path y.radius l)
  pub some : 0 < n
  pub few : n ≤ 4096
  pub inside : first_outside (kerb_path y.radius l) ≡ length (kerb_path y.radius l)
  pub styled : Styled y
