-- `turning::edges::store` meets its contract: each number is stored as it is, in its place. Assumes nothing.
use mathlib.Core.Path.{refl}
use Rattle.turning.proofs.Stored.{edge_stored}
use Rattle.turning.proofs.edges.store.Goals as goal

pub returns : goal.returns
returns c = edge_stored _ c.requires.reach c.narrow.ensures c.narrow-2.ensures c.narrow-3.ensures c.narrow-4.ensures refl refl refl refl
