-- `editing::replacing::put_vertex` meets its contract: three numbers stored, each as it is. Assumes nothing.
use mathlib.Core.Path.{refl}
use Rattle.editing.proofs.NewVertex.{vertex_put}
use Rattle.editing.proofs.replacing.put_vertex.Goals as goal

pub returns : goal.returns
returns c = vertex_put _ c.requires.0 c.narrow-x.ensures c.narrow-y.ensures c.narrow-radius.ensures refl refl refl
