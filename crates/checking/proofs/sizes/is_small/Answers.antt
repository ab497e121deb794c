-- `checking::sizes::is_small` meets its contract: by the outcomes of its tests. Assumes nothing.
use Rattle.std.proofs.lemmas.Grind.{common_steps}
use mathlib.Core.Path.{sym, ◌∙◌}
use native.Mathlib.Omega.{arith}
use Rattle.outline.specs.Stores.{kind_in, grade_in, count_in}
use Rattle.checking.specs.StoreRoom.{small_store}
use Rattle.checking.proofs.StoreRooms.{small_kind, small_grade}
use Rattle.checking.proofs.sizes.is_small.Goals.{then-word_at-lt-KERB_KIND, else-word_at-lt-KERB_KIND}
use Rattle.checking.proofs.sizes.is_small.Goals as goal

pub returns-then-s-lt-LEAST : goal.returns-then-s-lt-LEAST
unfolding small_store
returns-then-s-lt-LEAST c = grind (arith, common_steps)

pub returns-then-word_at-lt-FINE_GRADE : goal.returns-then-word_at-lt-FINE_GRADE
unfolding small_store kind_in grade_in count_in
returns-then-word_at-lt-FINE_GRADE c = grind (arith, common_steps)

pub returns-else-word_at-lt-FINE_GRADE : goal.returns-else-word_at-lt-FINE_GRADE
returns-else-word_at-lt-FINE_GRADE c =
    let no = c.if-word_at-lt-FINE_GRADE.false in
    no
    ∙ sym
    (elim c.if-word_at-lt-KERB_KIND.branch [
      | then-word_at-lt-KERB_KIND w ↦ small_grade c.args.s.now c.if-s-lt-LEAST.false c.word_at.ensures w.if-word_at-lt-KERB_KIND.true w.word_at-then-word_at-lt-KERB_KIND.ensures (sym w.value-is ∙ no)
      | else-word_at-lt-KERB_KIND w ↦ small_kind c.args.s.now c.if-s-lt-LEAST.false c.word_at.ensures w.if-word_at-lt-KERB_KIND.false
    ])
