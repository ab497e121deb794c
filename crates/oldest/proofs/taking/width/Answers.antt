-- `oldest::taking::width` meets its contract: the whole number's sign and its rest by two pick the case. Assumes nothing.
use Rattle.std.specs.Prelude.{Ok, Err}
use Rattle.std.proofs.Common.{◌≡◌, sym, ap, ◌∙◌, arith, w32, to_z, of_z, rules, SFits}
use Rattle.std.proofs.lemmas.Grind.{common_steps}
use mir.Facts.{to_z-of_z}
use Rattle.oldest.proofs.Reasons.{width_none, width_negative, width_odd, width_even, quotient_fits}
use Rattle.oldest.proofs.taking.width.Goals as goal

pub returns-in_err-n : goal.returns-in_err-n
returns-in_err-n c =
    let e : c.from_residual.result ≡ Err c.in_err-n.field-0.0 = grind (arith, common_steps) in
    e ∙ width_none c.args.x c.in_err-n.ensures

pub returns-then-n-lt0 : goal.returns-then-n-lt0
returns-then-n-lt0 c =
    let told : to_z w32 (of_z w32 c.in_ok-n.n) ≡ c.in_ok-n.n = search rules in
    width_negative c.args.x c.in_ok-n.n (sym c.in_ok-n.ensures) (rw told at c.if-n-lt0.true)

pub returns-then-odd-ne0 : goal.returns-then-odd-ne0
returns-then-odd-ne0 c =
    let told : to_z w32 (of_z w32 c.in_ok-n.n) ≡ c.in_ok-n.n = search rules in
    width_odd c.args.x c.in_ok-n.n (sym c.in_ok-n.ensures) (rw told at c.if-n-lt0.false) (rw told at c.if-odd-ne0.true)

pub returns : goal.returns
returns c =
    let told : to_z w32 (of_z w32 c.in_ok-n.n) ≡ c.in_ok-n.n = search rules in
    let fit : SFits w32 c.in_ok-n.n = record { sfits = search rules } in
    rw told
    (ap Ok (to_z-of_z {w = w32} (quotient_fits c.in_ok-n.n 2 fit))
    ∙ width_even c.args.x c.in_ok-n.n (sym c.in_ok-n.ensures) (rw told at c.if-n-lt0.false) (rw told at c.if-odd-ne0.false))
