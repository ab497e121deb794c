-- `kerb_drawing::draw_kerb` meets its contract: the rows first, then the points. Assumes nothing.
use Rattle.std.specs.Prelude.{Err}
use Rattle.std.proofs.lemmas.Grind.{common_steps}
use mathlib.Core.Path.{◌≡◌}
use native.Mathlib.Omega.{arith}
use Rattle.kerb_drawing.proofs.KerbAnswers.{kerb_refused}
use Rattle.kerb_drawing.proofs.draw_kerb.Goals as goal

pub returns-in_err-n : goal.returns-in_err-n
returns-in_err-n c =
    let e : c.from_residual.result ≡ Err c.in_err-n.field-0.0 = grind (arith, common_steps) in
    rw e (kerb_refused _ _ _ _ _ c.args.out.now c.in_err-n.ensures)
