-- `oldest::putting::put_three` meets its contract: three numbers one after another. Assumes nothing.
use Rattle.std.proofs.Common.{refl}
use Rattle.oldest.proofs.Vertices.{put_three}
use Rattle.oldest.proofs.putting.put_three.Goals as goal

pub returns : goal.returns
returns g c = put_three _ c.args.at c.put.ensures c.put-2.ensures c.put-3.ensures refl refl refl
