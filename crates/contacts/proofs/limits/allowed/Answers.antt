-- `contacts::limits::allowed` meets its contract: range after range. Assumes nothing.
use mathlib.Core.Path.{◌∙◌, sym}
use Rattle.contacts.proofs.Allowed.{in_range, not_across, not_up, all_allowed}
use Rattle.contacts.proofs.limits.allowed.Goals.{then-contains, else-contains}
use Rattle.contacts.proofs.limits.allowed.Goals as goal

pub returns-then-contains-2 : goal.returns-then-contains-2
returns-then-contains-2 c =
    let x = in_range _ c.new.ensures.start c.new.ensures.end c.new.ensures.exhausted c.contains.ensures.value in
    let r = in_range _ c.new-then-contains-2.ensures.start c.new-then-contains-2.ensures.end c.new-then-contains-2.ensures.exhausted c.contains-then-contains-2.ensures.value in
    elim c.if-contains.branch [
      | then-contains w ↦ all_allowed _ x (in_range _ w.new-then-contains.ensures.start w.new-then-contains.ensures.end w.new-then-contains.ensures.exhausted w.contains-then-contains.ensures.value) w.if-contains.true (sym w.value-is ∙ c.if-contains-2.true) r
      | else-contains w ↦ cc
    ]

pub returns-else-contains-2 : goal.returns-else-contains-2
returns-else-contains-2 c =
    let x = in_range _ c.new.ensures.start c.new.ensures.end c.new.ensures.exhausted c.contains.ensures.value in
    elim c.if-contains.branch [
      | then-contains w ↦ c.if-contains-2.false ∙ not_up _ x (in_range _ w.new-then-contains.ensures.start w.new-then-contains.ensures.end w.new-then-contains.ensures.exhausted w.contains-then-contains.ensures.value) w.if-contains.true (sym w.value-is ∙ c.if-contains-2.false)
      | else-contains w ↦ c.if-contains-2.false ∙ not_across _ x w.if-contains.false
    ]
