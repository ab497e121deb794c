-- `kerb_paths::points::way_count` meets its contract: by whether it closes. Assumes nothing.
use mathlib.Core.Path.{sym, ap}
use Rattle.kerb_paths.specs.Points.{way_count}
use Rattle.kerb_paths.proofs.points.way_count.Goals as goal

pub returns-then-y : goal.returns-then-y
unfolding way_count
returns-then-y c = ap (λ b. way_count b c.args.n) (sym c.if-y.true)

pub returns-else-y : goal.returns-else-y
unfolding way_count
returns-else-y c = ap (λ b. way_count b c.args.n) (sym c.if-y.false)
