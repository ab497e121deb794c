-- `checking::rests::compare_path` meets its contract: by the form. Assumes nothing.
use Rattle.checking.proofs.StoreReads.{stroke_front}
use Rattle.checking.proofs.StoreRooms.{stroke_compares, kerb_compares}
use Rattle.checking.proofs.rests.compare_path.Goals as goal

pub compare-requires-clause-path_within : goal.compare-requires-clause-path_within
compare-requires-clause-path_within c = stroke_compares c.requires.head c.args.path.now c.requires.within c.requires.own c.in-Stroke.is

pub compare-requires-clause-table_inside : goal.compare-requires-clause-table_inside
compare-requires-clause-table_inside c = stroke_front c.requires.head _ c.in-Stroke.is

pub compare_kerb-requires : goal.compare_kerb-requires
compare_kerb-requires c = kerb_compares c.requires.head c.args.path.now c.requires.within c.requires.own c.in-Kerb.is
