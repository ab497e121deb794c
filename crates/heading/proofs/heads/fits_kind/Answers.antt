-- `heading::heads::fits_kind` meets its contract: by each outcome of its tests. Assumes nothing.
use Rattle.heading.proofs.HeadRows.{stroke_fits, kerb_short, kerb_first, kerb_second}
use Rattle.heading.proofs.heads.fits_kind.Goals as goal

pub returns-in-Stroke : goal.returns-in-Stroke
returns-in-Stroke c = stroke_fits c.requires.edition c.requires.kind c.in-Stroke.is

pub returns-then-s-lt-KERB_LEAST : goal.returns-then-s-lt-KERB_LEAST
returns-then-s-lt-KERB_LEAST c = kerb_short c.requires.edition c.requires.kind c.in_default.is c.if-s-lt-KERB_LEAST.true

pub returns-in-First : goal.returns-in-First
returns-in-First c = kerb_first c.requires.edition c.requires.kind c.in_default.is c.if-s-lt-KERB_LEAST.false c.in-First.is

pub returns-in-Second : goal.returns-in-Second
returns-in-Second c = kerb_second c.requires.edition c.requires.kind c.in_default.is c.if-s-lt-KERB_LEAST.false c.in-Second.is
