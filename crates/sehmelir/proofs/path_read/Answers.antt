-- `sehmelir::path_read` meets its contract: the reply, and the form beside it. Assumes nothing.
use mathlib.Core.Path.{refl}
use Rattle.sehmelir.proofs.Told.{path_told}
use Rattle.sehmelir.proofs.path_read.Goals as goal

pub form_numbers-form-requires : goal.form_numbers-form-requires
form_numbers-form-requires c = rw c.form_read.ensures c.requires

pub returns : goal.returns
returns c = path_told c.vertices_read-reply.ensures c.form_numbers-form.ensures c.form_read.ensures refl refl refl refl refl refl refl
