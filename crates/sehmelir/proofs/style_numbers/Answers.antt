-- `sehmelir::style_numbers` meets its contract: each number by its own word. Assumes nothing.
use mathlib.Core.Path.{refl}
use Rattle.outline.proofs.Parts.{coordinate_fits, radius_size}
use Rattle.sehmelir.proofs.Told.{style_told}
use Rattle.sehmelir.proofs.style_numbers.Goals as goal

pub wide_bits-requires : goal.wide_bits-requires
wide_bits-requires c = coordinate_fits (radius_size c.requires)

pub returns : goal.returns
returns c = style_told c.args.y c.requires refl c.wide_bits.ensures c.join_word.ensures c.closed_word.ensures
