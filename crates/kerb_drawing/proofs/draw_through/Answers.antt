-- `kerb_drawing::draw_through` meets its contract: counted over own numbers, and where there is room put there. Assumes nothing.
use native.Mathlib.Omega.{arith}
use Rattle.paths.proofs.PathWalk.{some}
use Rattle.kerb.proofs.StyleNumbers.{style_radius}
use Rattle.kerb_rows.proofs.KerbChecks.{count_told, all_inside}
use Rattle.kerb_drawing.proofs.KerbAnswers.{counted_told, kerb_bare, kerb_short, kerb_done}
use Rattle.kerb_drawing.proofs.draw_through.Goals as goal

pub kerb_edges-numbers-requires : goal.kerb_edges-numbers-requires
kerb_edges-numbers-requires g c =
    let h = c.requires.0 in
    let a = c.args.kerb.now in
    let e = c.style-y.ensures in
    (count_told a.points.now a.radius a.join a.closed e h.count, omega (arith, h.count, h.within.count), all_inside a.points.now a.radius a.join a.closed e h.within.inside, style_radius a.radius a.join a.closed h.radius e, h.within.low, h.within.high)

pub returns-then-numbers-eq0 : goal.returns-then-numbers-eq0
returns-then-numbers-eq0 g c = kerb_bare _ _ _ _ _ c.requires.0 c.style-y.ensures c.kerb_edges-numbers.ensures _ c.if-numbers-eq0.true c.requires.1

pub returns-then-out-numbers : goal.returns-then-out-numbers
returns-then-out-numbers g c = kerb_short _ _ _ _ _ c.requires.0 c.style-y.ensures c.kerb_edges-numbers.ensures _ c.if-out-numbers.true

pub put_edges-done-requires : goal.put_edges-done-requires
put_edges-done-requires g c =
    let h = c.requires.0 in
    let a = c.args.kerb.now in
    let e = c.style-y.ensures in record { sound = (count_told a.points.now a.radius a.join a.closed e h.count, omega (arith, h.count, h.within.count), all_inside a.points.now a.radius a.join a.closed e h.within.inside, style_radius a.radius a.join a.closed h.radius e, h.within.low, h.within.high); counted = (counted_told c.kerb_edges-numbers.ensures, c.if-out-numbers.false) }

pub returns : goal.returns
returns g c =
    let p = c.kerb_edges-numbers.ensures in
    let q = c.put_edges-done.ensures in
    kerb_done _ _ _ _ _ c.requires.0 c.style-y.ensures q (λ _. omega (arith, p.pos, q.pos, some _ c.if-numbers-eq0.false)) (omega (arith, p.pos, q.pos, c.if-out-numbers.false))
