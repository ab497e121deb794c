-- `oldest::writing::returned` meets its contract. Two signed numbers are compared by their bits. Assumes nothing.
use Rattle.std.proofs.Common.{◌≡◌, sym, ap, ◌∙◌, w32, to_z, of_z, rules}
use Rattle.std.specs.Prelude.{Err}
use mir.Facts.{to_z-of_z}
use Rattle.oldest.proofs.Reasons.{not_whole}
use Rattle.oldest.proofs.Back.{none_back, same_back, other_back}
use Rattle.oldest.proofs.writing.returned.Goals.{In-Ok}
use Rattle.oldest.proofs.writing.returned.Goals as goal

pub returns-in_default : goal.returns-in_default
returns-in_default c =
    let a = c.args in
    ap Err (to_z-of_z {w = w32} c.ranges.n) ∙ none_back a.n a.x a.taken (not_whole a.taken c.in_default.not-Ok)

pub returns-then-back-n : goal.returns-then-back-n
returns-then-back-n c =
    same_back c.args.n c.args.x c.args.taken c.in-Ok.is
    (sym (to_z-of_z {w = w32} (search rules)) ∙ ap (to_z w32) c.if-back-n.true ∙ to_z-of_z {w = w32} c.ranges.n)

pub returns : goal.returns
returns c =
    ap Err (to_z-of_z {w = w32} c.ranges.n)
    ∙ other_back c.args.n c.args.x c.args.taken c.in-Ok.is (λ (e : c.in-Ok.back ≡ c.args.n). c.if-back-n.false (ap (of_z w32) e))
