-- `oldest::writing::width_back` meets its contract: the nearest float to the width, where it returns. Assumes nothing.
use Rattle.std.proofs.Common.{ℤ, pos, ◌*ℤ◌, ap, ◌∙◌, w32, to_z, of_z}
use Rattle.std.specs.Prelude.{Err}
use mir.Facts.{to_z-of_z}
use Rattle.oldest.proofs.Back.{radius_low, radius_high, twice_fits, width_written}
use Rattle.oldest.proofs.writing.width_back.Goals as goal

pub returns-then-radius-lt0 : goal.returns-then-radius-lt0
returns-then-radius-lt0 c = let r = c.args.radius in let e = to_z-of_z {w = w32} c.ranges.radius in ap Err e ∙ radius_low r (rw e at c.if-radius-lt0.true)

pub returns-then-radius-gt268435456 : goal.returns-then-radius-gt268435456
returns-then-radius-gt268435456 c = let r = c.args.radius in let e = to_z-of_z {w = w32} c.ranges.radius in ap Err e ∙ radius_high r (rw e at c.if-radius-lt0.false) (rw e at c.if-radius-gt268435456.true)

pub returns : goal.returns
returns c =
    let r = c.args.radius in
    let e = to_z-of_z {w = w32} c.ranges.radius in
    let a = rw e at c.if-radius-lt0.false in
    let b = rw e at c.if-radius-gt268435456.false in
    let d = ap (λ (z : ℤ). to_z w32 (of_z w32 (pos 2 *ℤ z))) e ∙ to_z-of_z {w = w32} (twice_fits r a b) in
    c.returned.ensures ∙ width_written a b e d c.nearest_i32_to_f32-x.ensures c.width.ensures
