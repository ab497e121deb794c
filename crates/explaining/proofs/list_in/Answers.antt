-- `explaining::list_in` meets its contract: written in one walk where there is room. Assumes nothing.
use native.Mathlib.Omega.{arith}
use Rattle.reasons.proofs.OneEdge.{whys_few}
use Rattle.explaining.proofs.Answers.{lists_short, lists_done}
use Rattle.explaining.proofs.list_in.Goals as goal

pub overflow_mul-numbers : goal.overflow_mul-numbers
overflow_mul-numbers c = omega (arith, c.requires.edges, whys_few c.args.grade _ c.requires.vertices.1)

pub returns-then-out-numbers : goal.returns-then-out-numbers
returns-then-out-numbers c = lists_short _ _ c.requires.edges c.if-out-numbers.true

pub returns : goal.returns
returns c = lists_done _ _ c.requires.edges c.if-out-numbers.false c.list_path.ensures.told
