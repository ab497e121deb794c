-- `variable_stroke::Walk::drawn` meets its contract: leaving, then the section drawn on. Assumes nothing.
use mathlib.Core.Path.{refl}
use Rattle.runs.proofs.Laws.{room_first, room_as}
use Rattle.folds.proofs.Laid.{room_past}
use Rattle.variable_stroke.proofs.ChainSteps.{emitted_drawn, leave_around, walk_drawn}
use Rattle.contacts.proofs.Steps.{drawn_whole}
use Rattle.contacts.proofs.Contacts.{section_around}
use Rattle.variable_stroke.proofs.Walk.drawn.Goals as goal

pub leave-left-requires : goal.leave-left-requires
leave-left-requires c = record { unit_long = (c.requires.unit_long.0, c.requires.unit_long.1, c.requires.unit_long.2); room = room_first _ _ (room_as (emitted_drawn _ _ _ c.requires.unit_long.3 refl refl) c.requires.room) }

pub section-s-requires : goal.section-s-requires
section-s-requires c = (c.requires.unit_long.1.at, c.requires.unit_long.2, drawn_whole _ _ c.requires.unit_long.3)

pub step-stepped-requires : goal.step-stepped-requires
step-stepped-requires c =
    let h = c.requires.unit_long in
    let l = c.leave-left.ensures in
    let e = c.section-s.ensures in record { unit_long = (h.0, leave_around _ _ h.1 l.chain, rw e (section_around h.1.at h.2 (drawn_whole _ _ h.3))); room = room_past _ l.made (room_as (emitted_drawn _ _ _ h.3 l.chain e) c.requires.room) }

pub returns : goal.returns
returns c = walk_drawn _ _ _ c.requires.unit_long.3 c.leave-left.ensures c.section-s.ensures c.step-stepped.ensures
