-- `oldest::taking::coordinate` meets its contract: the whole number's size picks the case. Assumes nothing.
use Rattle.std.specs.Prelude.{Ok, Err}
use Rattle.std.proofs.Common.{◌≡◌, sym, ap, ◌∙◌, arith, w32, to_z, of_z, rules}
use Rattle.std.proofs.lemmas.Grind.{common_steps}
use Rattle.oldest.proofs.Reasons.{coordinate_none, too_low, too_high, coordinate_found}
use Rattle.oldest.proofs.taking.coordinate.Goals as goal

pub returns-in_err-n : goal.returns-in_err-n
returns-in_err-n c =
    let e : c.from_residual.result ≡ Err c.in_err-n.field-0.0 = grind (arith, common_steps) in
    e ∙ coordinate_none c.args.x c.in_err-n.ensures

pub returns-then-n-ltminus268435456 : goal.returns-then-n-ltminus268435456
returns-then-n-ltminus268435456 c =
    let told : to_z w32 (of_z w32 c.in_ok-n.n) ≡ c.in_ok-n.n = search rules in
    too_low c.args.x c.in_ok-n.n (sym c.in_ok-n.ensures) (rw told at c.if-n-ltminus268435456.true)

pub returns-then-n-gt268435456 : goal.returns-then-n-gt268435456
returns-then-n-gt268435456 c =
    let told : to_z w32 (of_z w32 c.in_ok-n.n) ≡ c.in_ok-n.n = search rules in
    too_high c.args.x c.in_ok-n.n (sym c.in_ok-n.ensures) (rw told at c.if-n-gt268435456.true)

pub returns : goal.returns
returns c =
    let told : to_z w32 (of_z w32 c.in_ok-n.n) ≡ c.in_ok-n.n = search rules in
    ap Ok told ∙ c.in_ok-n.ensures ∙ coordinate_found c.args.x c.in_ok-n.n (sym c.in_ok-n.ensures) (rw told at c.if-n-ltminus268435456.false) (rw told at c.if-n-gt268435456.false)
