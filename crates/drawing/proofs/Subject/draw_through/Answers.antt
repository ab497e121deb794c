-- `drawing::Subject::draw_through` meets its contract: what the own numbers hold is where the path's edges begin. Assumes nothing.
use Rattle.plane.proofs.Directions.{step_unit}
use Rattle.replies.proofs.PathChecks.{walk_room}
use Rattle.drawing.proofs.Subject.draw_through.Goals as goal

pub begin-begun-requires : goal.begin-begun-requires
begin-begun-requires g c =
    let f = c.args.self.now.fits in record { n_value = (f.count, f.within.inside, step_unit _ c.args.self.now.stepped, c.args.self.now.some); room = walk_room _ f.within c.args.self.now.stepped }
