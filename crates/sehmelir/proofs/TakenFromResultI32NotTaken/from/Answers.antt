-- What a float is taken for, in numbers: the whole number, or the reason's. Assumes nothing.
use mathlib.Core.Path.{◌≡◌, refl}
use mir.Syntax.{w32}
use mir.Val.{to_z, of_z}
use borrow.Author.Rules.{rules}
use Rattle.oldest.specs.Taken.{whole_in}
use Rattle.sehmelir.proofs.Told.{tells_whole, tells_reason}
use Rattle.sehmelir.proofs.TakenFromResultI32NotTaken.from.Goals as goal

pub returns-in-Ok : goal.returns-in-Ok
returns-in-Ok c =
    let told : to_z w32 (of_z w32 c.in-Ok.whole) ≡ c.in-Ok.whole = search rules in
    tells_whole c.in-Ok.is refl told

pub returns-in-Err : goal.returns-in-Err
unfolding whole_in
returns-in-Err c = tells_reason c.in-Err.is c.reason_number.ensures refl (refl, refl)
