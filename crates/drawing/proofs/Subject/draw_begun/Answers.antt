-- `drawing::Subject::draw_begun` meets its contract: what the own numbers hold, put there, and the rest drawn from there on are the path's edges. Assumes nothing.
use mathlib.Core.List.{[]}
use native.Mathlib.Omega.{arith}
use Rattle.plane.proofs.Directions.{step_unit}
use Rattle.folds.proofs.ReadBack.{sizes_room}
use Rattle.paths.proofs.Stands.{along_room, along_end, begun_along, begun_whole, begun_holds, begun_edgewise}
use Rattle.replies.proofs.PathChecks.{walk_room}
use Rattle.drawing.proofs.DrawAnswers.{draws_empty, draws_short, draws_done}
use Rattle.drawing.proofs.Subject.draw_begun.Goals as goal

pub held_size-size-requires : goal.held_size-size-requires
held_size-size-requires c =
    let h = c.requires.begins in
    (begun_holds h, begun_edgewise h, omega (arith, h.whole, c.requires.short))

pub go_on-numbers-requires : goal.go_on-numbers-requires
go_on-numbers-requires c =
    let f = c.args.self.now.fits in
    let h = c.requires.begins in
    let a = begun_along h (c.held_size-size.ensures.size _ h.held h.sound h.numbers) in record { n_value = (f.count, f.within.inside, step_unit _ c.args.self.now.stepped, a.around, omega (arith, a.next, f.count)); room = along_room a (walk_room _ f.within c.args.self.now.stepped) }

pub returns-then-numbers-eq0 : goal.returns-then-numbers-eq0
returns-then-numbers-eq0 c =
    let h = c.requires.begins in
    let a = begun_along h (c.held_size-size.ensures.size _ h.held h.sound h.numbers) in
    draws_empty _ c.args.self.now.fits c.args.self.now.stepped (along_end a [] c.go_on-numbers.ensures) _ c.args.self.now.some c.if-numbers-eq0.true

pub returns-then-out-numbers : goal.returns-then-out-numbers
returns-then-out-numbers c =
    let h = c.requires.begins in
    let a = begun_along h (c.held_size-size.ensures.size _ h.held h.sound h.numbers) in
    draws_short _ c.args.self.now.fits c.args.self.now.stepped (along_end a [] c.go_on-numbers.ensures) _ c.if-out-numbers.true

pub put_held-requires : goal.put_held-requires
put_held-requires c =
    let h = c.requires.begins in
    (step_unit _ c.args.self.now.stepped, begun_holds h, begun_edgewise h, sizes_room _ c.held_size-size.ensures (omega (arith, c.go_on-numbers.ensures.pos, c.if-out-numbers.false)))

pub go_on-done-requires : goal.go_on-done-requires
go_on-done-requires c =
    let f = c.args.self.now.fits in
    let h = c.requires.begins in
    let a = begun_along h (c.held_size-size.ensures.size _ h.held h.sound h.numbers) in record { n_value = (f.count, f.within.inside, step_unit _ c.args.self.now.stepped, a.around, omega (arith, a.next, f.count)); room = along_room a (walk_room _ f.within c.args.self.now.stepped) }

pub returns : goal.returns
returns c =
    let h = c.requires.begins in
    let e = c.held_size-size.ensures.size _ h.held h.sound h.numbers in
    let a = begun_along h e in
    let all = begun_whole h e (c.put_held.ensures.unfolds h.held h.sound h.numbers) c.go_on-done.ensures in
    let counted = along_end a [] c.go_on-numbers.ensures in
    draws_done _ c.args.self.now.fits c.args.self.now.stepped all (λ _. omega (arith, all.pos, counted.pos, c.if-numbers-eq0.false)) (omega (arith, all.pos, counted.pos, c.if-out-numbers.false))
