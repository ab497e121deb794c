-- `kerb_keeping::filling::KerbPlan::fill_piece` meets its contract: the edges of the piece stand in `own`, and are put as words after its count. Assumes nothing.
use mathlib.Core.Path.{refl}
use native.Mathlib.Omega.{arith}
use Rattle.folds.proofs.Laid.{lays_plain}
use Rattle.kerb_paths.specs.Points.{kerb_path, way_of}
use Rattle.outline.proofs.OwnNumbers.{own_room, own_inside}
use Rattle.kerb_outline.proofs.PieceRoom.{piece_few, piece_own, entry_fits, count_fits}
use Rattle.kerb_keeping.proofs.KerbFilled.{numbers_room, piece_filled}
use Rattle.kerb_keeping.proofs.filling.KerbPlan.fill_piece.Goals as goal

pub piece-p-requires : goal.piece-p-requires
piece-p-requires c = record { lent = (c.requires.lent.0, c.requires.lent.1, c.requires.lent.3); room = own_room (piece_few c.args.t c.args.self.now.style (way_of c.args.self.now.style (kerb_path c.args.self.now.style.radius c.args.self.now.points.now)) c.args.f.tour) }

pub overflow_add-f : goal.overflow_add-f
overflow_add-f c = omega (arith, count_fits c.args.t c.args.self.now.style (kerb_path c.args.self.now.style.radius c.args.self.now.points.now) c.args.f.tour c.requires.room.0 c.requires.room.1 (lays_plain refl c.piece-p.ensures.made))

pub put_count-c-requires : goal.put_count-c-requires
put_count-c-requires c = (entry_fits c.args.t c.args.self.now.style (kerb_path c.args.self.now.style.radius c.args.self.now.points.now) c.args.f.tour c.requires.room.0 c.requires.room.1, count_fits c.args.t c.args.self.now.style (kerb_path c.args.self.now.style.radius c.args.self.now.points.now) c.args.f.tour c.requires.room.0 c.requires.room.1 (lays_plain refl c.piece-p.ensures.made))

pub put_numbers-bodies-requires : goal.put_numbers-bodies-requires
put_numbers-bodies-requires c = record { n_in_bounds = own_inside (piece_few c.args.t c.args.self.now.style (way_of c.args.self.now.style (kerb_path c.args.self.now.style.radius c.args.self.now.points.now)) c.args.f.tour) (lays_plain refl c.piece-p.ensures.made) (piece_own c.args.t c.args.self.now.style (way_of c.args.self.now.style (kerb_path c.args.self.now.style.radius c.args.self.now.points.now)) c.args.f.tour c.requires.lent.2); room = numbers_room c.args.t c.args.self.now.style (kerb_path c.args.self.now.style.radius c.args.self.now.points.now) c.args.f.tour c.requires.room.0 c.requires.room.1 c.requires.lent.2 (lays_plain refl c.piece-p.ensures.made) }

pub returns : goal.returns
returns c = piece_filled c.args.t c.args.self.now.style (kerb_path c.args.self.now.style.radius c.args.self.now.points.now) c.args.f c.requires.room.0 c.requires.lent.2 c.piece-p.ensures c.put_count-c.ensures c.put_numbers-bodies.ensures
