-- `kerb_paths::pieces::walk` meets its contract: what is left of the tour is drawn on, piece by piece. Assumes nothing.
use mathlib.Core.Path.{refl, sym, ap, ◌∙◌}
use Rattle.runs.proofs.Laws.{runs_none, runs_as, room_as}
use Rattle.runs.proofs.Onward.{onward_as, onward_done, onward_room}
use Rattle.folds.proofs.Laid.{lays_plain}
use Rattle.kerb.specs.Tours.{rest_of}
use Rattle.kerb.proofs.TourKept.{rest_done, piece_room, piece_onward}
use Rattle.kerb_paths.specs.Points.{kerb_path, first_of, way_of}
use Rattle.kerb_paths.proofs.pieces.walk.Goals as goal

pub piece-s-requires : goal.piece-s-requires
piece-s-requires c =
    let vs = kerb_path c.args.y.radius c.args.points.now in
    let more = sym c.done.ensures ∙ c.loop-y-test.true in
    let room = room_as (ap (rest_of c.args.t c.args.y (first_of vs) (way_of c.args.y vs)) (sym c.first_tour-w.ensures.tour)) c.requires.room in record { lent = (c.requires.lent.0, c.requires.lent.1, c.loop-y.invariant.0); room = piece_room c.args.t c.args.y (first_of vs) (way_of c.args.y vs) c.loop-y.w more (onward_room c.loop-y.invariant.1 room) }

pub loop-y-preserved : goal.loop-y-preserved
loop-y-preserved c =
    let vs = kerb_path c.args.y.radius c.args.points.now in
    let more = sym c.done.ensures ∙ c.loop-y-test.true in
    (c.piece-s.ensures.touring, piece_onward c.args.t c.args.y (first_of vs) (way_of c.args.y vs) c.loop-y.w more c.piece-s.ensures.tour c.loop-y.invariant.1 (lays_plain refl c.piece-s.ensures.made))

pub returns : goal.returns
returns c =
    let vs = kerb_path c.args.y.radius c.args.points.now in
    let done = sym c.done.ensures ∙ c.loop-y-test.false in
    runs_as (ap (rest_of c.args.t c.args.y (first_of vs) (way_of c.args.y vs)) (sym c.first_tour-w.ensures.tour))
    (onward_done (onward_as (rest_done c.args.t c.args.y (first_of vs) (way_of c.args.y vs) c.loop-y.w done) c.loop-y.invariant.1) runs_none)
