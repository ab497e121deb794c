-- `reasons::labels::exactness` meets its contract: a side's own, and none with any other reason. Assumes nothing.
use mathlib.Core.Path.{◌≡◌, refl}
use mathlib.Core.Bool.{false}
use Rattle.contacts.specs.declared.Exactness.{Exactness}
use Rattle.reasons.specs.declared.Reason.{Reason}
use Rattle.reasons.specs.declared.Reason.TheVariants.{LeftSide, RightSide, StartCap, EndCap, LeftJoin, RightJoin, Gap, Circle}
use borrow.Author.Rules.{rules}
use Rattle.reasons.specs.Reasons.{exactness_of}
use Rattle.reasons.proofs.labels.exactness.Goals as goal

pub returns-in-LeftSide : goal.returns-in-LeftSide
unfolding exactness_of
returns-in-LeftSide c = search rules

pub returns-in-LeftSide-2 : goal.returns-in-LeftSide-2
unfolding exactness_of
returns-in-LeftSide-2 c = search rules

none_told : (r : Reason) → ((x : Exactness) → r ≡ LeftSide x → ⊥) → ((x : Exactness) → r ≡ RightSide x → ⊥) → record { a = false; b = false } ≡ exactness_of r
unfolding exactness_of
none_told (LeftSide x) h k = absurd (h x refl)
none_told (RightSide x) h k = absurd (k x refl)
none_told StartCap h k = refl
none_told EndCap h k = refl
none_told LeftJoin h k = refl
none_told RightJoin h k = refl
none_told Gap h k = refl
none_told Circle h k = refl

pub returns-in_default : goal.returns-in_default
returns-in_default c = none_told _ c.in_default.not-LeftSide c.in_default.not-RightSide
