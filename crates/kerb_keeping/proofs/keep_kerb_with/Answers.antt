-- `kerb_keeping::keep_kerb_with` meets its contract: the rows first, then writing over bytes with no old outline. Assumes nothing.
use Rattle.std.specs.Prelude.{Err}
use Rattle.std.proofs.lemmas.Grind.{common_steps}
use mathlib.Core.Path.{◌≡◌, refl}
use native.Mathlib.Omega.{arith}
use Rattle.kerb_keeping.proofs.KerbAnswers.{kerb_held, kerb_keeps, kerb_keeps_refused}
use Rattle.kerb_keeping.proofs.keep_kerb_with.Goals as goal

pub returns-in_err-n : goal.returns-in_err-n
returns-in_err-n c =
    let e : c.from_residual.result ≡ Err c.in_err-n.field-0.0 = grind (arith, common_steps) in
    rw e (kerb_keeps_refused c.args.points.now c.args.out.now c.in_err-n.ensures)

pub invariant_of-plan : goal.invariant_of-plan
invariant_of-plan c =
    let h = kerb_held c.args.points.now (c.in_ok-n.ensures.fits _ refl) c.style.ensures in
    record { counted = h.0; within = h.1; wide = h.2 }

pub returns : goal.returns
returns c = kerb_keeps c.args.points.now (c.in_ok-n.ensures.fits _ refl) c.style.ensures c.rewrite.ensures
