-- `reasons::explain::explain_path` meets its contract: the five numbers at the edge's place in the list, if the list reaches so far. Assumes nothing.
use mathlib.Core.Path.{refl}
use native.Mathlib.Omega.{arith}
use Rattle.paths.specs.Paths.{path_of}
use Rattle.reasons.specs.Reasons.{whys_of}
use Rattle.reasons.proofs.OneEdge.{explained_none, explained_edge, whys_few}
use Rattle.reasons.proofs.explain.explain_path.Goals as goal

pub returns-then-edge-ge4294967296 : goal.returns-then-edge-ge4294967296
returns-then-edge-ge4294967296 c = explained_none (whys_of c.args.grade (path_of c.args.path.now)) c.args.edge (omega (arith, whys_few c.args.grade (path_of c.args.path.now) c.requires.1, c.if-edge-ge4294967296.true))

pub returns-then-list_path-from : goal.returns-then-list_path-from
returns-then-list_path-from c = explained_none (whys_of c.args.grade (path_of c.args.path.now)) c.args.edge (omega (arith, c.list_path.ensures.count, c.if-list_path-from.true))

pub returns : goal.returns
returns c = explained_edge (whys_of c.args.grade (path_of c.args.path.now)) c.args.edge c.args.one.now c.requires.2 (omega (arith, c.list_path.ensures.count, c.if-list_path-from.false)) c.list_path.ensures.told refl refl refl c.named.ensures refl refl
