-- `editing::replacing::replace_with` meets its contract: a refusal is that of the shared rows, a kerb's or a retired grade's; else the vertex is changed. Assumes nothing.
use native.Mathlib.Omega.{arith}
use Rattle.heading.proofs.Handed.{handed_with}
use Rattle.checking.proofs.KnownStore.{passed, known}
use Rattle.checking.proofs.StoreRooms.{posts_enough, stroke_enough}
use Rattle.editing.specs.Replacing.{Replaces}
use Rattle.editing.proofs.NewVertex.{change_retired}
use Rattle.editing.proofs.StoreRefused.{replace_refused, replace_other}
use Rattle.editing.proofs.replacing.replace_with.Goals as goal

pub returns-in_err-header : goal.returns-in_err-header
returns-in_err-header c = handed_with (Replaces _ _ _) c.from_residual.ensures.1 (replace_refused _ _ c.in_err-header.was c.check.ensures)

pub returns-in_err-edition : goal.returns-in_err-edition
returns-in_err-edition c = handed_with (Replaces _ _ _) c.from_residual-in_err-edition.ensures.1 (replace_other _ _ (passed c.in_ok-header.was c.check.ensures) c.in_err-edition.ensures)

pub returns-then-header-lt2 : goal.returns-then-header-lt2
returns-then-header-lt2 c = change_retired (known (passed c.in_ok-header.was c.check.ensures) c.in_ok-edition.ensures) _ _ c.if-header-lt2.true

pub change-requires : goal.change-requires
change-requires c =
    let p = passed c.in_ok-header.was c.check.ensures in record {
      known = known p c.in_ok-edition.ensures;
      drawn = c.if-header-lt2.false;
      room = (posts_enough p.sound.head c.requires.1, omega (arith, stroke_enough p.sound.head c.requires.2));
    }
