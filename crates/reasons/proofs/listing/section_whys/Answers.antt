-- `reasons::listing::section_whys` meets its contract: leaving, then the section drawn on. Assumes nothing.
use mathlib.Core.Path.{refl}
use Rattle.runs.proofs.Laws.{runs_as, runs_then, room_first, room_then, room_as}
use Rattle.contacts.proofs.Steps.{drawn_whole}
use Rattle.contacts.proofs.Contacts.{section_around}
use Rattle.variable_stroke.proofs.ChainSteps.{leave_around}
use Rattle.reasons.proofs.Whys.{step_whys_drawn}
use Rattle.reasons.proofs.listing.section_whys.Goals as goal

pub leave_whys-i-requires : goal.leave_whys-i-requires
leave_whys-i-requires c = record { unit_long = (c.requires.unit_long.0, c.requires.unit_long.1, c.requires.unit_long.2); room = room_first _ _ (room_as (step_whys_drawn c.args.v c.args.t c.args.w c.args.b c.requires.unit_long.3 refl refl) c.requires.room) }

pub section-requires : goal.section-requires
section-requires c = (c.requires.unit_long.1.at, c.requires.unit_long.2, drawn_whole _ _ c.requires.unit_long.3)

pub drawn_whys-requires : goal.drawn_whys-requires
drawn_whys-requires c = record { unit_long = (c.requires.unit_long.0, leave_around _ _ c.requires.unit_long.1 c.left_chain.ensures, rw c.section.ensures (section_around c.requires.unit_long.1.at c.requires.unit_long.2 (drawn_whole _ _ c.requires.unit_long.3))); room = room_then _ c.leave_whys-i.ensures (room_as (step_whys_drawn c.args.v c.args.t c.args.w c.args.b c.requires.unit_long.3 c.left_chain.ensures c.section.ensures) c.requires.room) }

pub returns : goal.returns
returns c = runs_as (step_whys_drawn c.args.v c.args.t c.args.w c.args.b c.requires.unit_long.3 c.left_chain.ensures c.section.ensures) (runs_then c.leave_whys-i.ensures c.drawn_whys.ensures)
