-- `sides::locate_with` meets its contract: a refusal of the earlier sheet, of the later, or of either kind; else the chosen one is asked. Assumes nothing.
use borrow.Author.Rules.{rules}
use mathlib.Core.Path.{sym, ◌∙◌}
use Rattle.heading.proofs.Handed.{handed}
use Rattle.checking.proofs.StoreRooms.{many_path, many_own}
use Rattle.sides.specs.Sides.{Locates}
use Rattle.sides.proofs.Answers.{chosen_before, chosen_after, locates_as, locates_earlier, locates_later, kerb_before, kerb_after, locates_body}
use Rattle.sides.proofs.locate_with.Goals as goal

pub check-requires : goal.check-requires
check-requires c = (many_path c.args.before.now (search rules), many_own c.args.before.now (search rules))

pub returns-in_err-earlier : goal.returns-in_err-earlier
returns-in_err-earlier c = handed (Locates _ _ _ _) c.from_residual.ensures.1 (locates_earlier _ _ _ _ c.in_err-earlier.was c.check.ensures)

pub check-requires-2 : goal.check-requires-2
check-requires-2 c = (many_path c.args.after.now (search rules), many_own c.args.after.now (search rules))

pub returns-in_err-later : goal.returns-in_err-later
returns-in_err-later c = handed (Locates _ _ _ _) c.from_residual-in_err-later.ensures.1 (locates_later _ _ _ _ (c.check.ensures.sound _ c.in_ok-earlier.was) c.in_err-later.was c.check-2.ensures)

pub returns-in_err-first : goal.returns-in_err-first
returns-in_err-first c = handed (Locates _ _ _ _) c.from_residual-in_err-first.ensures.1 (kerb_before _ _ _ _ (c.check.ensures.sound _ c.in_ok-earlier.was) (c.check-2.ensures.sound _ c.in_ok-later.was) c.in_err-first.ensures)

pub returns-in_err-second : goal.returns-in_err-second
returns-in_err-second c = handed (Locates _ _ _ _) c.from_residual-in_err-second.ensures.1 (kerb_after _ _ _ _ (c.check.ensures.sound _ c.in_ok-earlier.was) (c.check-2.ensures.sound _ c.in_ok-later.was) c.in_ok-first.ensures c.in_err-second.ensures)

pub marked-requires : goal.marked-requires
marked-requires c = (c.check.ensures.sound _ c.in_ok-earlier.was, c.in_ok-first.ensures)

pub marked-requires-in-After : goal.marked-requires-in-After
marked-requires-in-After c = (c.check-2.ensures.sound _ c.in_ok-later.was, c.in_ok-second.ensures)

pub returns-in-Before : goal.returns-in-Before
returns-in-Before c =
    locates_body _ _ _ _ (c.check.ensures.sound _ c.in_ok-earlier.was) (c.check-2.ensures.sound _ c.in_ok-later.was) c.in_ok-first.ensures c.in_ok-second.ensures (locates_as (c.marked.ensures ∙ sym (chosen_before _ _ c.in-Before.is)) c.body.ensures)

pub returns-in-After : goal.returns-in-After
returns-in-After c =
    locates_body _ _ _ _ (c.check.ensures.sound _ c.in_ok-earlier.was) (c.check-2.ensures.sound _ c.in_ok-later.was) c.in_ok-first.ensures c.in_ok-second.ensures (locates_as (c.marked-in-After.ensures ∙ sym (chosen_after _ _ c.in-After.is)) c.body-in-After.ensures)
