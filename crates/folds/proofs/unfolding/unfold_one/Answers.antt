-- `folds::unfolding::unfold_one` meets its contract, case by case. Assumes nothing.
use native.Mathlib.Omega.{arith}
use Rattle.runs.proofs.Laws.{runs_as}
use Rattle.turning.proofs.Stored.{one_room}
use Rattle.folds.proofs.FoldByFold.{size_straight, size_bent, straight_sound, bent_sound, straight_edge, bent_edges}
use Rattle.folds.proofs.unfolding.unfold_one.Goals as goal

pub store-requires : goal.store-requires
store-requires c =
    let e = c.in-Straight.is in record { reach = straight_sound e c.requires.1; room = one_room _ (omega (arith, size_straight e, c.requires.2, c.well_formed.0.0)); inside = omega (arith, size_straight e, c.requires.2) }

pub bent-requires : goal.bent-requires
bent-requires c =
    let e = c.in-Bent.is in
    (c.requires.0, bent_sound e c.requires.1, omega (arith, size_bent e, c.requires.2))

pub returns-in-Straight : goal.returns-in-Straight
returns-in-Straight c = runs_as (straight_edge _ c.in-Straight.is) c.store.ensures

pub returns-in-Bent : goal.returns-in-Bent
returns-in-Bent c = runs_as (bent_edges _ c.in-Bent.is) c.bent.ensures
