-- Records are whole vertices, so that 1 is the reply to none. Assumes nothing.
use mathlib.Core.Path.{◌≡◌, refl, sym, ap, ◌∙◌}
use mathlib.Core.Bool.{Bool, true, false, true≢false, not}
use mathlib.Core.List.{List, [], ◌∷◌}
use Prim.Native.Nat.{◌%◌}
use native.Mathlib.Omega.{arith}
use lib.ListN.{length}
use borrow.Author.Tests.{eq-eqb}
use Rattle.runs.specs.Runs.{spread}
use Rattle.records.specs.Records.{record_numbers}
use Rattle.records.specs.declared.Record.{Record}
use Rattle.records.proofs.Gathered.{records_three}
use Rattle.replies.specs.Replies.{Row, Reply, first_row, triples_row, draw_grade_row, count_row, outside_row, empty_row, room_row, path_rows}
use Rattle.drawing.specs.Drawing.{draw_reply}
use Rattle.keeping.specs.Keeping.{keep_reply, write_rows}
use Rattle.record_paths.specs.RecordPaths.{NeverUneven}

-- rows of which none that holds replies 1
abbrev NoneOnes : List Row → Type 0
NoneOnes [] = Unit {0}
NoneOnes (row ∷ rows) = (row.0 ≡ true → row.1.0 ≡ 1 → ⊥) × NoneOnes rows

none_one : (rows : List Row) (last : Reply) → NoneOnes rows → (last.0 ≡ 1 → ⊥) → (first_row rows last).0 ≡ 1 → ⊥
unfolding first_row
none_one [] last h k = k
none_one (row ∷ rows) last h k = pick row.0 refl (none_one rows last h.1 k)
  where
    pick : (c : Bool) → row.0 ≡ c → ((first_row rows last).0 ≡ 1 → ⊥) → (elim c as (λ _. Reply) [ true ↦ row.1 | false ↦ first_row rows last ]).0 ≡ 1 → ⊥
    pick true e rest = h.0 e
    pick false e rest = rest

whole : (vs : List Record) → (triples_row (spread record_numbers vs)).0 ≡ false
unfolding triples_row
whole vs = ap not (eq-eqb (length (spread record_numbers vs) % 3) 0 (omega (arith, records_three vs)))

pub never_uneven : NeverUneven
unfolding draw_reply keep_reply write_rows path_rows draw_grade_row count_row outside_row empty_row room_row
never_uneven vs ps g room = (none_one _ _ ((λ e _. true≢false (sym e ∙ whole vs)), ((λ _ e. omega (arith, e)), ((λ _ e. omega (arith, e)), ((λ _ e. omega (arith, e)), ((λ _ e. omega (arith, e)), ((λ _ e. omega (arith, e)), tt)))))) (λ e. omega (arith, e)), none_one _ _ ((λ e _. true≢false (sym e ∙ whole vs)), ((λ _ e. omega (arith, e)), ((λ _ e. omega (arith, e)), ((λ _ e. omega (arith, e)), ((λ _ e. omega (arith, e)), ((λ _ e. omega (arith, e)), tt)))))) (λ e. omega (arith, e)))
