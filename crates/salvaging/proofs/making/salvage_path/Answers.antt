-- `salvaging::making::salvage_path` meets its contract: the row of the vertices, and what differs stands at the front of its numbers. Assumes nothing.
use mathlib.Core.Path.{refl, ap}
use native.Mathlib.Omega.{arith}
use lib.ListN.{length}
use Rattle.differences.proofs.Notes.{singles_count}
use Rattle.salvaging.proofs.Given.{count_is, past_outside, within_is, past_given, found_front}
use borrow.Author.Rules.{rules}
use Rattle.salvaging.proofs.FrontRows.{front_fits}
use Rattle.salvaging.proofs.making.salvage_path.Goals as goal

pub first_outside-bad-requires : goal.first_outside-bad-requires
first_outside-bad-requires c = count_is (front_fits c.args.front.now) c.requires.copied.0

pub returns-then-bad-front : goal.returns-then-bad-front
returns-then-bad-front c = past_outside (front_fits c.args.front.now) c.requires.copied.0 _ _ _ _ c.first_outside-bad.ensures c.if-bad-front.true

pub differences-m-requires : goal.differences-m-requires
differences-m-requires c = (count_is (front_fits c.args.front.now) c.requires.copied.0, within_is (front_fits c.args.front.now) c.requires.copied.0 c.first_outside-bad.ensures c.if-bad-front.false, c.requires.own_room.0, omega (arith, c.requires.own_room.1, (front_fits c.args.front.now).fronted.few))

pub invariant_of-plan : goal.invariant_of-plan
invariant_of-plan c = record { counted = count_is (front_fits c.args.front.now) c.requires.copied.0; within = within_is (front_fits c.args.front.now) c.requires.copied.0 c.first_outside-bad.ensures c.if-bad-front.false }

pub salvage_found-requires : goal.salvage_found-requires
salvage_found-requires c = record { edges = c.differences-m.ensures.due; own_room = search rules; few_found = (omega (arith, (front_fits c.args.front.now).fronted.few, ap length (found_front c.args.front.now.n c.differences-m.ensures.found (omega (arith, c.requires.own_room.1, (front_fits c.args.front.now).fronted.few)) refl), singles_count c.differences-m.ensures.found)) }

pub returns : goal.returns
returns c = past_given (front_fits c.args.front.now) c.requires.copied.0 c.first_outside-bad.ensures c.if-bad-front.false c.requires.copied.1 (found_front c.args.front.now.n c.differences-m.ensures.found (omega (arith, c.requires.own_room.1, (front_fits c.args.front.now).fronted.few)) refl) c.salvage_found.ensures
