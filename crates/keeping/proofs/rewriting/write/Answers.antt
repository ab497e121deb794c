-- `keeping::rewriting::write` meets its contract: the outline, and zeros from its end on. Assumes nothing.
use Rattle.keeping.proofs.Rewrites.{write_done}
use Rattle.keeping.proofs.rewriting.write.Goals as goal

pub returns : goal.returns
returns g c = write_done (g.O.Outlined.form_of c.args.outlined.now) _ _ _ _ _ c.fill_in-end.ensures c.clear.ensures c.requires.fits.0 c.requires.fits.1
