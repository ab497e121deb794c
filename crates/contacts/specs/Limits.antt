-- Document 01, "What is ported": the limits.
use Rattle.std.specs.Prelude.{Bool, true, false, ◌&&◌, List, [], ◌∷◌, ℕ, suc, pos, negsuc}
use Rattle.std.specs.Int.Signed.{le_z}
use Rattle.contacts.specs.declared.Vertex.{Vertex}

-- Allowed: x and y from -268,435,456 to 268,435,456; radius 0 to 268,435,456.
unfoldable pub allowed_of : Vertex → Bool
allowed_of v =
    le_z (negsuc 268435455) v.x && le_z v.x (pos 268435456)
    && le_z (negsuc 268435455) v.y && le_z v.y (pos 268435456)
    && le_z (pos 0) v.radius && le_z v.radius (pos 268435456)

-- the index of the first vertex outside the limits, or how many vertices there are
unfoldable pub first_outside : List Vertex → ℕ
first_outside [] = 0
first_outside (v ∷ vs) = elim (allowed_of v) [ true ↦ suc (first_outside vs) | false ↦ 0 ]
