-- `paths::paths::walk` meets its contract: from the first vertex on all the path's edges are to come. Assumes nothing.
use native.Mathlib.Omega.{arith}
use Rattle.runs.proofs.Laws.{runs_none, runs_as}
use Rattle.paths.proofs.PathWalk.{some, edges-none}
use Rattle.paths.proofs.Stands.{along_room, along_first, first_whole}
use Rattle.paths.proofs.paths.walk.Goals as goal

pub returns-then-n-eq0 : goal.returns-then-n-eq0
returns-then-n-eq0 c = runs_as (edges-none _ _ (omega (arith, c.requires.n_value.0, c.if-n-eq0.true))) runs_none

pub go_on-requires : goal.go_on-requires
go_on-requires c =
    let h = along_first c.args.t _ (omega (arith, c.requires.n_value.0, some _ c.if-n-eq0.false)) c.first_stand.ensures c.requires.n_value.1 in record { n_value = (c.requires.n_value.0, c.requires.n_value.1, c.requires.n_value.2, h.around, omega (arith, h.next, c.requires.n_value.0)); room = along_room h c.requires.room }

pub returns-else-n-eq0 : goal.returns-else-n-eq0
returns-else-n-eq0 c = first_whole _ _ (omega (arith, c.requires.n_value.0, some _ c.if-n-eq0.false)) c.first_stand.ensures c.go_on.ensures
