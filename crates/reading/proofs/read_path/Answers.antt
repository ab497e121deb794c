-- `reading::read_path` meets its contract: the path is written where there is room for it. Assumes nothing.
use mathlib.Core.Path.{refl}
use Rattle.heading.specs.Shows.{lent_width}
use Rattle.checking.proofs.StoreReads.{header_long}
use Rattle.reading.proofs.ReadAnswers.{room_told, reads_short, reads_done}
use Rattle.reading.proofs.read_path.Goals as goal

pub returns-then-out-needed : goal.returns-then-out-needed
returns-then-out-needed c = reads_short _ c.requires c.width.ensures refl c.if-out-needed.true

pub show_path-requires : goal.show_path-requires
show_path-requires c = (header_long c.requires.head, room_told (lent_width c.args.h.form) c.args.h.n c.width.ensures c.if-out-needed.false)

pub returns : goal.returns
returns c = reads_done _ c.requires c.width.ensures refl c.if-out-needed.false c.show_path.ensures
