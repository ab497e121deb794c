-- `kerb_paths::pieces::kerb_edges` meets its contract: no points, no width, or a tour. Assumes nothing.
use native.Mathlib.Omega.{arith}
use Rattle.runs.proofs.Laws.{runs_none, runs_as, room_as}
use Rattle.plane.proofs.Directions.{step_unit}
use Rattle.turning.proofs.Limits.{radius_back}
use Rattle.paths.proofs.PathWalk.{some}
use Rattle.kerb_paths.specs.Points.{kerb_path}
use Rattle.kerb_paths.proofs.PointsAhead.{kerb_empty, kerb_thin, kerb_tour}
use Rattle.kerb_paths.proofs.PiecesTold.{kerb_room}
use Rattle.kerb_paths.proofs.pieces.kerb_edges.Goals as goal

pub returns-then-n-eq0 : goal.returns-then-n-eq0
returns-then-n-eq0 c = runs_as (kerb_empty _ _ _ (omega (arith, c.requires.0, c.if-n-eq0.true))) runs_none

pub returns-then-y-le1 : goal.returns-then-y-le1
returns-then-y-le1 c = runs_as (kerb_thin _ _ _ (rw (radius_back c.requires.3) at c.if-y-le1.true)) runs_none

pub walk-requires : goal.walk-requires
walk-requires c =
    let h = c.requires in
    let vs = kerb_path c.args.y.radius c.args.points.now in
    let n = some _ c.if-n-eq0.false in
    let draws = rw (radius_back h.3) at c.if-y-le1.false in record { lent = (record { count = h.0; some = n; few = h.1; inside = h.2; styled = record { radius = h.3; draws = draws } }, step_unit _ c.step.ensures); room = room_as (kerb_tour _ _ vs (omega (arith, h.0, n)) draws c.step.ensures) (kerb_room _ _ vs (omega (arith, h.0, h.1))) }

pub returns : goal.returns
returns c =
    let h = c.requires in
    let vs = kerb_path c.args.y.radius c.args.points.now in
    let n = some _ c.if-n-eq0.false in
    let draws = rw (radius_back h.3) at c.if-y-le1.false in
    runs_as (kerb_tour _ _ vs (omega (arith, h.0, n)) draws c.step.ensures) c.walk.ensures
