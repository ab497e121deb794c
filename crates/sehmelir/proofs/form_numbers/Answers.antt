-- `sehmelir::form_numbers` meets its contract: by the form. Assumes nothing.
use mathlib.Core.Path.{refl}
use Rattle.comparing.proofs.FirstByte.{kerb_within}
use Rattle.sehmelir.proofs.Told.{stroke_told, kerb_told}
use Rattle.sehmelir.proofs.form_numbers.Goals as goal

pub style_numbers-requires : goal.style_numbers-requires
style_numbers-requires c = kerb_within c.in-Kerb.is c.requires

pub returns-in-Stroke : goal.returns-in-Stroke
returns-in-Stroke c = stroke_told c.in-Stroke.is refl refl refl refl

pub returns-in-Kerb : goal.returns-in-Kerb
returns-in-Kerb c = kerb_told c.in-Kerb.is c.style_numbers.ensures
