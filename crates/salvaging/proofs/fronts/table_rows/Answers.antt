-- `salvaging::fronts::table_rows` meets its contract: each return is the outcome of a row. Assumes nothing.
use mathlib.Core.Path.{refl}
use Rattle.outline.specs.declared.Form.TheVariants.{Stroke}
use native.Mathlib.Omega.{arith}
use Rattle.outline.specs.Stores.{grade_in, count_in}
use Rattle.outline.proofs.FormLengths.{front_small}
use Rattle.salvaging.proofs.FrontRows.{edition_numbered, no_kerb, grade_low, grade_high, table_many, table_cut, table_holds}
use Rattle.salvaging.proofs.fronts.table_rows.Goals as goal
use Rattle.salvaging.proofs.fronts.table_rows.Goals.{then-grade-lt1-via-then-grade-lt1, then-grade-lt1-via-else-grade-lt1+then-grade-gt8}

pub returns-then-grade-lt1 : goal.returns-then-grade-lt1
returns-then-grade-lt1 c =
    elim c.then-grade-lt1.branch [
      | then-grade-lt1-via-then-grade-lt1 w ↦ grade_low _ c.word_at-grade.ensures w.if-grade-lt1.true
      | then-grade-lt1-via-else-grade-lt1+then-grade-gt8 w ↦ grade_high _ c.word_at-grade.ensures w.if-grade-lt1.false w.if-grade-gt8.true
    ]

pub returns-then-n-gt4096 : goal.returns-then-n-gt4096
returns-then-n-gt4096 c = table_many _ c.word_at-grade.ensures c.if-grade-lt1.false c.if-grade-gt8.false c.word_at-n.ensures c.if-n-gt4096.true

pub front-end-requires : goal.front-end-requires
front-end-requires c = front_small (Stroke _) _ c.if-n-gt4096.false

pub returns-then-s-end : goal.returns-then-s-end
returns-then-s-end c = table_cut _ c.word_at-grade.ensures c.if-grade-lt1.false c.if-grade-gt8.false c.word_at-n.ensures c.if-n-gt4096.false c.word_at.ensures c.of-edition.ensures c.front-end.ensures c.if-s-end.true

pub invariant_of-result : goal.invariant_of-result
unfolding grade_in count_in
invariant_of-result c = record {
  numbered = edition_numbered c.args.s.now c.word_at.ensures c.of-edition.ensures;
  stroke = no_kerb c.args.s.now c.requires.1;
  graded = c.word_at-grade.ensures;
  low = c.if-grade-lt1.false;
  high = c.if-grade-gt8.false;
  counted = c.word_at-n.ensures;
  few = c.if-n-gt4096.false;
  long = omega (arith, c.front-end.ensures, c.if-s-end.false);
}

pub returns : goal.returns
returns c = table_holds _ _ refl
