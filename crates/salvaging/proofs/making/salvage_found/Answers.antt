-- `salvaging::making::salvage_found` meets its contract: its two tests are the rows of the two rooms, and after both the notes and the outline are written. Assumes nothing.
use native.Mathlib.Omega.{arith}
use Rattle.paths.specs.Paths.{path_of}
use Rattle.outline.specs.Outlines.{outline_bytes}
use Rattle.outline.specs.declared.Form.TheVariants.{Stroke}
use Rattle.outline.proofs.FormLengths.{length_small}
use Rattle.outline.proofs.ReadBack.{few_edges}
use Rattle.keeping.proofs.Rewrites.{needed_is}
use Rattle.differences.specs.Differences.{notes_from}
use Rattle.differences.proofs.Notes.{singles_count}
use Rattle.own_room.proofs.StepRooms.{numbers_any}
use Rattle.salvaging.proofs.Given.{both_short, both_unlisted, both_given}
use Rattle.salvaging.proofs.making.salvage_found.Goals as goal

pub whole_length-needed-requires : goal.whole_length-needed-requires
whole_length-needed-requires c = length_small (Stroke c.args.plan.now.edition) _ _ (omega (arith, c.args.plan.now.counted, c.args.plan.now.within.count)) (omega (arith, c.requires.edges, few_edges (Stroke c.args.plan.now.edition) c.args.plan.now.grade (path_of c.args.plan.now.path.now) c.args.plan.now.within.count))

pub returns-then-out-needed : goal.returns-then-out-needed
returns-then-out-needed c = both_short (outline_bytes (Stroke c.args.plan.now.edition) c.args.plan.now.grade c.args.plan.now.posts.now (path_of c.args.plan.now.path.now)) (notes_from 0 c.args.found.now) _ _ (needed_is (Stroke c.args.plan.now.edition) c.args.plan.now.grade c.args.plan.now.posts.now (path_of c.args.plan.now.path.now) c.args.plan.now.counted c.requires.edges c.whole_length-needed.ensures) c.if-out-needed.true

pub put_notes-words-requires : goal.put_notes-words-requires
put_notes-words-requires c = c.requires.few_found

pub returns-then-list-words : goal.returns-then-list-words
returns-then-list-words c = both_unlisted (outline_bytes (Stroke c.args.plan.now.edition) c.args.plan.now.grade c.args.plan.now.posts.now (path_of c.args.plan.now.path.now)) (notes_from 0 c.args.found.now) _ _ (needed_is (Stroke c.args.plan.now.edition) c.args.plan.now.grade c.args.plan.now.posts.now (path_of c.args.plan.now.path.now) c.args.plan.now.counted c.requires.edges c.whole_length-needed.ensures) c.if-out-needed.false (singles_count c.put_notes-words.ensures) c.if-list-words.true

pub put_notes-requires : goal.put_notes-requires
put_notes-requires c = c.requires.few_found

pub write-bytes-requires : goal.write-bytes-requires
write-bytes-requires c = record { room = numbers_any c.args.plan.now.grade (omega (arith, c.requires.own_room)); edges = c.requires.edges; fits = (omega (arith, c.if-out-needed.false, (needed_is (Stroke c.args.plan.now.edition) c.args.plan.now.grade c.args.plan.now.posts.now (path_of c.args.plan.now.path.now) c.args.plan.now.counted c.requires.edges c.whole_length-needed.ensures)), omega arith) }

pub returns : goal.returns
returns c = both_given (outline_bytes (Stroke c.args.plan.now.edition) c.args.plan.now.grade c.args.plan.now.posts.now (path_of c.args.plan.now.path.now)) (notes_from 0 c.args.found.now) _ _ (needed_is (Stroke c.args.plan.now.edition) c.args.plan.now.grade c.args.plan.now.posts.now (path_of c.args.plan.now.path.now) c.args.plan.now.counted c.requires.edges c.whole_length-needed.ensures) c.if-out-needed.false (singles_count c.put_notes-words.ensures) c.if-list-words.false c.put_notes.ensures c.write-bytes.ensures
