-- Document 02, request 3: a style in three numbers, the radius, the join (0 bevel, 1 round) and closed (0 or 1).
use Rattle.std.specs.Prelude.{true, false, ℕ, eqb, pos}
use Rattle.kerb.specs.declared.Join.{Join}
use Rattle.kerb.specs.declared.Join.TheVariants.{Bevel, Round}
use Rattle.kerb.specs.declared.Style.{Style}

unfoldable pub join_numbered : ℕ → Join
join_numbered j = elim (eqb j 0) [ true ↦ Bevel | false ↦ Round ]

unfoldable pub style_of : ℕ → ℕ → ℕ → Style
style_of r j c = record { radius = pos r; join = join_numbered j; closed = eqb c 1 }
