-- `reaching::reach::reach_with` meets its contract: a refusal is that of the shared rows, or a kerb's; else the store's path is walked. Assumes nothing.
use native.Mathlib.Nat.{sub-zero}
use native.Mathlib.Omega.{arith}
use Rattle.heading.proofs.Handed.{handed}
use Rattle.checking.proofs.KnownStore.{passed}
use Rattle.reaching.specs.Replies.{Reaches}
use Rattle.reaching.proofs.StoreReach.{reach_refused, reach_other, numbers_held, path_held, reach_passed}
use Rattle.reaching.proofs.reach.reach_with.Goals as goal

pub returns-in_err-header : goal.returns-in_err-header
returns-in_err-header c = handed (Reaches _ _) c.from_residual.ensures.1 (reach_refused _ c.in_err-header.was c.check.ensures)

pub returns-in_err-stroke_edition : goal.returns-in_err-stroke_edition
returns-in_err-stroke_edition c = handed (Reaches _ _) c.from_residual-in_err-stroke_edition.ensures.1 (reach_other (passed c.in_ok-header.was c.check.ensures) _ c.in_err-stroke_edition.ensures)

pub slice_bounds-reach_in-end : goal.slice_bounds-reach_in-end
slice_bounds-reach_in-end c = omega (arith, numbers_held (passed c.in_ok-header.was c.check.ensures) c.in_ok-stroke_edition.ensures)

pub reach_in-requires : goal.reach_in-requires
reach_in-requires c = path_held (passed c.in_ok-header.was c.check.ensures) c.in_ok-stroke_edition.ensures (sub-zero _)

pub returns : goal.returns
returns c = reach_passed (passed c.in_ok-header.was c.check.ensures) c.in_ok-stroke_edition.ensures (sub-zero _) _ c.reach_in.ensures
