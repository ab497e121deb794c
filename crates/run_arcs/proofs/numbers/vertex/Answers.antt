-- `run_arcs::numbers::vertex` meets its contract: the vertex was tested. Assumes nothing.
use Rattle.run_arcs.proofs.Guards.{inside_told}
use Rattle.run_arcs.proofs.numbers.vertex.Goals as goal

pub returns-then-allowed : goal.returns-then-allowed
returns-then-allowed c = inside_told c.allowed.ensures c.if-allowed.true
