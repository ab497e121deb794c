-- `variable_stroke::Chain::lone` meets its contract: no circle where a step was marked or both caps are Butt. Assumes nothing.
use mathlib.Core.Path.{◌≡◌, ◌∙◌}
use mathlib.Core.Bool.{◌||◌}
use borrow.Author.Rules.{rules}
use Rattle.runs.proofs.Laws.{room_as}
use Rattle.folds.proofs.Laid.{lays_none, lays_as}
use Rattle.joins.proofs.CapsAndJoins.{radius_told_lem}
use Rattle.contacts.proofs.Contacts.{centre_is}
use Rattle.variable_stroke.proofs.ChainSteps.{lone_not, lone_circle}
use Rattle.variable_stroke.specs.Chains.{both_butt}
use Rattle.variable_stroke.proofs.Chain.lone.Goals.{then-self, else-self}
use Rattle.variable_stroke.proofs.Chain.lone.Goals as goal

pub returns-then-both_butt : goal.returns-then-both_butt
returns-then-both_butt c =
    let v : c.if-self.value ≡ (c.args.self.mark || both_butt c.args.self.cap c.args.cap) =
    elim c.if-self.branch [ then-self w ↦ rw w.if-self.true (w.value-is ∙ w.if-self.true) | else-self w ↦ rw w.if-self.false (w.value-is ∙ w.both_butt.ensures) ]
    in
    lays_as (lone_not _ _ _ v c.if-both_butt.true) lays_none

pub circle-requires : goal.circle-requires
circle-requires c =
    let v : c.if-self.value ≡ (c.args.self.mark || both_butt c.args.self.cap c.args.cap) =
    elim c.if-self.branch [ then-self w ↦ rw w.if-self.true (w.value-is ∙ w.if-self.true) | else-self w ↦ rw w.if-self.false (w.value-is ∙ w.both_butt.ensures) ]
    in
    let h = c.requires.unit_long in
    let e = c.centre.ensures in
    record { unit_long = (h.0, rw e (centre_is h.1.start), radius_told_lem h.1.start (search rules)); room = room_as (lone_circle _ _ _ (search rules) v c.if-both_butt.false e) c.requires.room }

pub returns-else-both_butt : goal.returns-else-both_butt
returns-else-both_butt c =
    let v : c.if-self.value ≡ (c.args.self.mark || both_butt c.args.self.cap c.args.cap) =
    elim c.if-self.branch [ then-self w ↦ rw w.if-self.true (w.value-is ∙ w.if-self.true) | else-self w ↦ rw w.if-self.false (w.value-is ∙ w.both_butt.ensures) ]
    in
    lays_as (lone_circle _ _ _ (search rules) v c.if-both_butt.false c.centre.ensures) c.circle.ensures
