-- `leaps::counting::turned_on` meets its contract: leaps that tell everything count the rotations. Assumes nothing.
use mathlib.Core.Path.{◌≡◌, refl, sym, ◌∙◌}
use mathlib.Core.Bool.{true≢false, true}
use native.Mathlib.Omega.{arith}
use borrow.Author.Tests.{not-false}
use Rattle.leaps.specs.Leaps.{Long}
use Rattle.leaps.proofs.Bows.{bends_misses, bends_hits}
use Rattle.leaps.proofs.counting.turned_on.Goals.{Else-not-long, then-not-ends, else-not-ends}
use Rattle.leaps.proofs.counting.turned_on.Goals as goal

-- both tests passed
ready : (c : Else-not-long) → (c.ends.result ≡ true) × Long c.leapt-s.result.direction c.leapt-s.result.off true
ready c =
    elim c.if-not-ends.branch [
      | then-not-ends w ↦ absurd (true≢false (sym (rw w.if-not-ends.true at w.value-is) ∙ c.if-not-long.false))
      | else-not-ends w ↦ (w.if-not-ends.false, rw (not-false _ (sym w.value-is ∙ c.if-not-long.false)) at w.long.ensures)
    ]

pub returns-then-misses : goal.returns-then-misses
returns-then-misses c =
    let t = ready (goal.at.returns-then-misses c).Else-not-long in
    (omega arith, bends_misses _ _ _ _ _ c.requires.0.step c.requires.1 c.leapt-s.ensures c.moves.ensures c.if-not-moves.false c.ends.ensures t.0 t.1 refl c.misses.ensures c.if-misses.true)

pub returns-then-hits : goal.returns-then-hits
returns-then-hits c =
    let t = ready (goal.at.returns-then-hits c).Else-not-long in
    (c.if-s-gt0.true, bends_hits _ _ _ _ _ c.requires.0.step c.requires.1 c.leapt-s.ensures c.moves.ensures c.if-not-moves.false c.ends.ensures t.0 t.1 refl c.hits.ensures c.if-hits.true)
