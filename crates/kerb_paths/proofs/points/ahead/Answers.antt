-- `kerb_paths::points::ahead` meets its contract: a point after the first, or the first again. Assumes nothing.
use native.Mathlib.Omega.{arith}
use Rattle.kerb_paths.specs.Points.{kerb_path}
use Rattle.kerb_paths.proofs.PointsAhead.{way_on, way_back}
use Rattle.kerb_paths.proofs.points.ahead.Goals as goal

pub returns-then-k-n : goal.returns-then-k-n
returns-then-k-n c = λ _. way_on c.args.y (kerb_path c.args.y.radius c.args.points.now) c.args.k (omega (arith, c.requires.0, c.if-k-n.true)) c.point.ensures

pub returns-else-k-n : goal.returns-else-k-n
returns-else-k-n c = λ l. way_back c.args.y (kerb_path c.args.y.radius c.args.points.now) c.args.k (omega (arith, c.requires.0, c.if-k-n.false)) c.point-else-k-n.ensures l
