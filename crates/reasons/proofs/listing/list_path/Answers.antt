-- `reasons::listing::list_path` meets its contract: no vertex has no reason, and else each body is gone through. Assumes nothing.
use mathlib.Core.Path.{sym, ◌∙◌}
use Rattle.plane.proofs.Directions.{step_unit}
use Rattle.paths.specs.Paths.{path_of}
use Rattle.paths.proofs.PathWalk.{some}
use Rattle.reasons.proofs.PathList.{list_room, list_all, list_none}
use Rattle.reasons.proofs.listing.list_path.Goals as goal

pub returns-then-n-eq0 : goal.returns-then-n-eq0
returns-then-n-eq0 c =
    let h = list_none c.args.grade (path_of c.args.path.now) c.args.from {l = c.args.out.now} (sym c.requires.0 ∙ c.if-n-eq0.true) in
    record { told = h.0; count = h.1 }

pub go_whys-requires : goal.go_whys-requires
go_whys-requires c = record { within = (c.requires.0, c.requires.1.inside, step_unit _ c.step.ensures, some _ c.if-n-eq0.false); room = list_room c.args.grade (path_of c.args.path.now) c.requires.1 c.step.ensures }

pub returns-else-n-eq0 : goal.returns-else-n-eq0
returns-else-n-eq0 c =
    let h = list_all c.args.grade (path_of c.args.path.now) c.args.from c.step.ensures c.go_whys.ensures in
    record { told = h.0; count = h.1 }
