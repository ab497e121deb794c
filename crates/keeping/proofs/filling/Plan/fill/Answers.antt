-- `keeping::filling::Plan::fill` meets its contract: the first entry, then what is left of table and bodies; without vertices the closing count alone. Assumes nothing.
use Prim.Native.Nat.{◌<◌}
use native.Mathlib.Omega.{arith}
use lib.ListN.{length}
use Rattle.variable_stroke.proofs.ChainSteps.{start_around}
use Rattle.paths.proofs.PathWalk.{some, inside_at}
use Rattle.paths.specs.Paths.{path_of}
use Rattle.words.proofs.OneWord.{word_room}
use Rattle.outline.specs.declared.Form.TheVariants.{Stroke}
use Rattle.outline.proofs.FormLengths.{entry_most, front_small}
use Rattle.outline.proofs.Parts.{room_entry}
use Rattle.plane.proofs.Directions.{step_unit}
use Rattle.own_room.proofs.StepRooms.{step_room}
use Rattle.keeping.proofs.Whole.{fill_none, rest_apart, fill_all}
use Rattle.keeping.proofs.filling.Plan.fill.Goals as goal

pub front-bodies-requires : goal.front-bodies-requires
front-bodies-requires c = front_small (Stroke c.args.self.now.edition) c.args.self.now.n (omega (arith, c.args.self.now.counted, c.args.self.now.within.count))

pub put_word-requires : goal.put_word-requires
put_word-requires c = word_room _ (omega arith)

pub returns-then-self-eq0 : goal.returns-then-self-eq0
returns-then-self-eq0 c = fill_none c.args.self.now.edition _ c.args.self.now.posts.now (path_of c.args.self.now.path.now) (omega (arith, c.args.self.now.counted, c.if-self-eq0.true)) c.front-bodies.ensures c.put_word.ensures

pub vertex-a-requires : goal.vertex-a-requires
vertex-a-requires c = omega (arith, c.args.self.now.counted, some _ c.if-self-eq0.false)

pub put_entry-table-requires : goal.put_entry-table-requires
put_entry-table-requires c = record { inside = inside_at (path_of c.args.self.now.path.now) 0 c.args.self.now.within.inside (omega (arith, c.args.self.now.counted, some _ c.if-self-eq0.false)) c.vertex-a.ensures; room = room_entry c.args.self.now.edition _ _ _ (omega (arith, (entry_most c.args.self.now.edition).1)) }

pub fill_from-requires : goal.fill_from-requires
fill_from-requires c =
    let p = path_of c.args.self.now.path.now in
    let i : 0 < length p = omega (arith, c.args.self.now.counted, some _ c.if-self-eq0.false) in record { some = some _ c.if-self-eq0.false; sound = (step_unit _ c.step.ensures, rw c.new.ensures (start_around _ (inside_at p 0 c.args.self.now.within.inside i c.vertex-a.ensures)), step_room c.step.ensures c.args.self.now.within c.requires); apart = rest_apart c.args.self.now.edition _ c.args.self.now.posts.now p i c.vertex-a.ensures c.post.ensures c.new.ensures c.step.ensures c.put_entry-table.ensures c.args.self.now.counted c.front-bodies.ensures c.args.self.now.within.count }

pub returns : goal.returns
returns c =
    let p = path_of c.args.self.now.path.now in
    fill_all c.args.self.now.edition _ c.args.self.now.posts.now p (omega (arith, c.args.self.now.counted, some _ c.if-self-eq0.false)) c.vertex-a.ensures c.post.ensures c.new.ensures c.step.ensures c.put_entry-table.ensures c.args.self.now.counted c.front-bodies.ensures c.fill_from.ensures
