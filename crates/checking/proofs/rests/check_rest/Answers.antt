-- `checking::rests::check_rest` meets its contract: the vertices are shown, and the rows are tested over them. Assumes nothing.
use mathlib.Core.Path.{refl}
use native.Mathlib.Omega.{arith}
use Rattle.runs.proofs.Written.{written-length}
use Rattle.checking.proofs.StoreReads.{header_long, header_few, shown_front, shown_lent}
use Rattle.checking.proofs.StoreRooms.{path_enough}
use Rattle.checking.proofs.rests.check_rest.Goals as goal

pub show_path-requires : goal.show_path-requires
show_path-requires c = (header_long c.requires.0, path_enough c.requires.0 refl c.requires.1)

pub overflow_mul-shown : goal.overflow_mul-shown
overflow_mul-shown c = omega (arith, header_few c.requires.0 c.width.ensures)

pub slice_bounds-check_shown-end : goal.slice_bounds-check_shown-end
slice_bounds-check_shown-end c = omega (arith, path_enough c.requires.0 c.width.ensures c.requires.1, written-length c.show_path.ensures)

pub check_shown-requires : goal.check_shown-requires
check_shown-requires c = record { head = c.requires.0; path = shown_lent c.requires.0 (path_enough c.requires.0 refl c.requires.1) c.width.ensures c.show_path.ensures; own = c.requires.2 }

pub returns : goal.returns
returns c = record { says = c.check_shown.ensures; path = shown_front c.requires.0 (path_enough c.requires.0 refl c.requires.1) c.width.ensures c.show_path.ensures }
