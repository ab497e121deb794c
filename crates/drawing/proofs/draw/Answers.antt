-- `drawing::draw` meets its contract: the rows first, then the path. Assumes nothing.
use Rattle.std.specs.Prelude.{Err}
use Rattle.std.proofs.lemmas.Grind.{common_steps}
use mathlib.Core.Path.{◌≡◌}
use native.Mathlib.Omega.{arith}
use Rattle.drawing.proofs.DrawAnswers.{draws_refused}
use Rattle.drawing.proofs.draw.Goals as goal

pub returns-in_err-n : goal.returns-in_err-n
returns-in_err-n c =
    let e : c.from_residual.result ≡ Err c.in_err-n.field-0.0 = grind (arith, common_steps) in
    rw e (draws_refused c.args.path.now c.args.out.now c.in_err-n.ensures)
