-- `converting::convert_kerb` meets its contract: the store's own points, drawn anew where the old outline ends. Assumes nothing.
use native.Mathlib.Nat.{sub-zero}
use native.Mathlib.Omega.{arith}
use Rattle.checking.proofs.StoreReads.{kerb_radius}
use Rattle.converting.proofs.ConvertRows.{kerb_few, kerb_counted, kerb_within, kerb_converts}
use Rattle.converting.proofs.convert_kerb.Goals as goal

pub whole_length-old-requires : goal.whole_length-old-requires
whole_length-old-requires c = omega (arith, kerb_few c.requires.passed.0 c.requires.passed.1)

pub slice_bounds-plan-end : goal.slice_bounds-plan-end
slice_bounds-plan-end c = omega (arith, kerb_few c.requires.passed.0 c.requires.passed.1)

pub invariant_of-plan : goal.invariant_of-plan
invariant_of-plan c = record {
  counted = kerb_counted c.requires.passed.0 c.requires.passed.1 (sub-zero _);
  within = kerb_within c.requires.passed.0 c.requires.passed.1 (sub-zero _) c.requires.grade.0 c.requires.grade.1;
  wide = kerb_radius c.requires.passed.0.sound.head c.requires.passed.1;
}

pub redraw_kerb-requires : goal.redraw_kerb-requires
redraw_kerb-requires c = (c.requires.room, omega (arith, c.whole_length-old.ensures, kerb_few c.requires.passed.0 c.requires.passed.1))

pub returns : goal.returns
returns c = kerb_converts c.requires.passed.0 c.requires.passed.1 (sub-zero _) c.requires.grade.0 c.requires.grade.1 c.whole_length-old.ensures c.redraw_kerb.ensures
