-- `explaining::explain_in` meets its contract: what the path says of the edge, by its case. Assumes nothing.
use Rattle.explaining.proofs.Answers.{explains_edge, explains_none}
use Rattle.explaining.proofs.explain_in.Goals as goal

pub returns-in-Some : goal.returns-in-Some
returns-in-Some c = explains_edge _ _ c.explain_path.ensures c.in-Some.is

pub returns-in-None : goal.returns-in-None
returns-in-None c = explains_none _ _ c.explain_path.ensures c.in-None.is
