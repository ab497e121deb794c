-- `contacts::math::moved` meets its contract: an offset is no longer than the radius, so the sum fits. Assumes nothing.
use Rattle.contacts.proofs.Tangents.{moved_fits, moved_back, moved_exact}
use Rattle.contacts.proofs.math.moved.Goals as goal

pub overflow_add-result : goal.overflow_add-result
overflow_add-result c = moved_fits c.args.x c.args.radius c.args.n c.args.divisor c.requires.0 c.requires.1 c.requires.2 c.requires.3 c.requires.4 c.mul_div-q.ensures.0

pub returns : goal.returns
returns c = (
  moved_back c.args.x c.args.radius c.args.n c.args.divisor c.requires.0 c.requires.1 c.requires.2 c.requires.3 c.requires.4 c.mul_div-q.ensures.0,
  moved_exact c.args.x c.args.radius c.args.n c.args.divisor c.requires.0 c.requires.1 c.requires.2 c.requires.3 c.requires.4 c.mul_div-q.ensures.1,
)
