-- `kerb_paths::pieces::piece` meets its contract: the tour's own step, with the point ahead on the way. Assumes nothing.
use Rattle.kerb_paths.proofs.PiecesTold.{way_fits, piece_ready, piece_fits, piece_told}
use Rattle.kerb_paths.proofs.pieces.piece.Goals as goal

pub ahead-b-requires : goal.ahead-b-requires
ahead-b-requires c =
    let h = c.requires.lent in
    (h.0.count, h.0.some, way_fits _ _ h.0 h.2.within)

pub step-s-requires : goal.step-s-requires
step-s-requires c =
    let h = c.requires.lent in record { unit_long = (h.1, h.0.styled, piece_ready _ _ h.0 _ _ h.2 c.way_count.ensures c.point-first.ensures c.ahead-b.ensures); room = piece_fits _ _ h.0 _ _ h.2 c.way_count.ensures c.point-first.ensures c.ahead-b.ensures c.args.pen c.requires.room }

pub returns : goal.returns
returns c =
    let h = c.requires.lent in
    piece_told _ _ h.0 _ _ h.2 c.way_count.ensures c.point-first.ensures c.ahead-b.ensures c.args.pen c.ends.ensures c.step-s.ensures
