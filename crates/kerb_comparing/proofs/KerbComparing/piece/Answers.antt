-- `kerb_comparing::KerbComparing::piece` meets its contract: the edges of the piece stand in `own`, and are compared as words. Assumes nothing.
use mathlib.Core.Path.{refl}
use native.Mathlib.Omega.{arith}
use Rattle.folds.proofs.Laid.{lays_plain}
use Rattle.kerb_paths.specs.Points.{kerb_path, way_of}
use Rattle.outline.proofs.OwnNumbers.{own_room, own_inside, own_small}
use Rattle.kerb_outline.proofs.PieceRoom.{piece_few, piece_own, entry_fits, words_fit, count_fits}
use Rattle.kerb_comparing.proofs.KerbComparisons.{piece_agrees}
use Rattle.kerb_comparing.proofs.KerbComparing.piece.Goals as goal

pub piece-p-requires : goal.piece-p-requires
piece-p-requires c = record { lent = (c.requires.lent.0, c.requires.lent.1, c.requires.touring.0); room = own_room (piece_few c.args.t c.args.y (way_of c.args.y (kerb_path c.args.y.radius c.args.points.now)) c.args.self.tour) }

pub same_numbers-bodies-requires : goal.same_numbers-bodies-requires
same_numbers-bodies-requires c = record { n_in_bounds = own_inside (piece_few c.args.t c.args.y (way_of c.args.y (kerb_path c.args.y.radius c.args.points.now)) c.args.self.tour) (lays_plain refl c.piece-p.ensures.made) (piece_own c.args.t c.args.y (way_of c.args.y (kerb_path c.args.y.radius c.args.points.now)) c.args.self.tour c.requires.lent.2); n_bound = words_fit c.args.t c.args.y (kerb_path c.args.y.radius c.args.points.now) c.args.self.tour c.requires.touring.1 c.requires.tour_room (lays_plain refl c.piece-p.ensures.made) }

pub overflow_mul-at : goal.overflow_mul-at
overflow_mul-at c = omega (arith, own_small (piece_few c.args.t c.args.y (way_of c.args.y (kerb_path c.args.y.radius c.args.points.now)) c.args.self.tour) (lays_plain refl c.piece-p.ensures.made))

pub overflow_add-at : goal.overflow_add-at
overflow_add-at c = omega (arith, words_fit c.args.t c.args.y (kerb_path c.args.y.radius c.args.points.now) c.args.self.tour c.requires.touring.1 c.requires.tour_room (lays_plain refl c.piece-p.ensures.made))

pub overflow_add-self : goal.overflow_add-self
overflow_add-self c = omega (arith, count_fits c.args.t c.args.y (kerb_path c.args.y.radius c.args.points.now) c.args.self.tour c.requires.touring.1 c.requires.tour_room (lays_plain refl c.piece-p.ensures.made))

pub same_count-d-requires : goal.same_count-d-requires
same_count-d-requires c = (entry_fits c.args.t c.args.y (kerb_path c.args.y.radius c.args.points.now) c.args.self.tour c.requires.touring.1 c.requires.tour_room, count_fits c.args.t c.args.y (kerb_path c.args.y.radius c.args.points.now) c.args.self.tour c.requires.touring.1 c.requires.tour_room (lays_plain refl c.piece-p.ensures.made))

pub returns : goal.returns
returns c = piece_agrees c.args.t c.args.y (kerb_path c.args.y.radius c.args.points.now) c.args.self c.requires.touring.1 _ c.requires.lent.2 c.piece-p.ensures c.same_numbers-bodies.ensures c.same_count-d.ensures
