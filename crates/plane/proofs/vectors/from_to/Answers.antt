-- `plane::vectors::from_to` meets its contract: the fields come back from their bits. Assumes nothing.
use lib.IntN.{◌-ℤ◌}
use Rattle.plane.proofs.Products.{bits, from_to_back}
use Rattle.plane.proofs.vectors.from_to.Goals as goal

pub returns : goal.returns
returns c = from_to_back _ _ _ _ c.requires.0 c.requires.1 (λ i. bits c.args.q.x -ℤ bits c.args.p.x) (λ i. bits c.args.q.y -ℤ bits c.args.p.y)
