-- `keeping::keep_posts` meets its contract: the rows first, then the path. Assumes nothing.
use Rattle.std.specs.Prelude.{Err}
use Rattle.std.proofs.lemmas.Grind.{common_steps}
use mathlib.Core.Path.{◌≡◌}
use native.Mathlib.Omega.{arith}
use Rattle.keeping.proofs.KeepAnswers.{keeps_refused}
use Rattle.keeping.proofs.keep_posts.Goals as goal

pub returns-in_err-n : goal.returns-in_err-n
returns-in_err-n c =
    let e : c.from_residual.result ≡ Err c.in_err-n.field-0.0 = grind (arith, common_steps) in
    rw e (keeps_refused c.args.path.now c.args.posts.now c.args.out.now c.in_err-n.ensures)
