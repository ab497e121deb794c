-- `folds::folding::fold_counted` meets its contract: an arc of three edges or more stands as eleven numbers. Assumes nothing.
use Rattle.folds.proofs.Eleven.{room_bow, bow_sound, lays_bow}
use Rattle.folds.proofs.folding.fold_counted.Goals as goal

pub put_bow-requires : goal.put_bow-requires
put_bow-requires c = let h = c.requires.turns in (bow_sound h.4 h.0 h.1 h.2 h.3, room_bow h.4 h.3 c.requires.room)

pub returns : goal.returns
returns c = let h = c.requires.turns in lays_bow h.4 h.0 h.1 h.2 h.3 c.put_bow.ensures
