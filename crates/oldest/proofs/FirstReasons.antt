-- Every float is taken, or refused with one reason, the first that applies. Assumes nothing.
use Rattle.std.proofs.Common.{◌≡◌, ℕ, zero, suc, ◌+◌, ◌/◌, ◌<◌, ◌≤◌, Bool, true, false, List, [], ◌∷◌, ◌++◌, get_or, ℤ, pos, sym, refl, ap, ◌∙◌, zero-add, arith}
use mathlib.Core.Option.{some}
use lib.Ieee.{Float}
use Rattle.replies.specs.Replies.{first_row}
use Rattle.std.specs.Prelude.{Ok}
use Rattle.oldest.specs.Floats.{magnitude_of, whole_of}
use Rattle.oldest.specs.Taken.{Taken, reasons, width_reasons, whole_within, coordinate_of, width_of, reason_of, refused_in}
use Rattle.oldest.specs.Theorems.{CoordinateTaken, WidthTaken, FirstReason, tests, CoordinateReason, WidthReason}
use Rattle.oldest.proofs.Reasons.{coordinate_taken, coordinate_says, width_taken, width_says}

pub coordinate_is_taken : CoordinateTaken
coordinate_is_taken x = (coordinate_taken x, coordinate_says x)

pub width_is_taken : WidthTaken
width_is_taken x = (width_taken x, width_says x)

-- ---- rows whose reasons are numbered one after another, all of them about x

abbrev Numbered : ℕ → Float → List (Bool × Taken) → Type 0
Numbered i x [] = Unit {0}
Numbered i x (row ∷ rows) = (reason_of row.1 ≡ suc i) × (refused_in row.1 ≡ some x) × Numbered (suc i) x rows

-- the same claim from a number on
record From (i : ℕ) (bs : List Bool) (x : Float) (t : Taken) : Type 0 where
  taken : reason_of t ≡ 0 → (j : ℕ) → get_or bs j false ≡ false
  holds : (k : ℕ) → reason_of t ≡ suc (i + k) → get_or bs k false ≡ true
  first : (k : ℕ) → reason_of t ≡ suc (i + k) → (j : ℕ) → j < k → get_or bs j false ≡ false
  itself : (k : ℕ) → reason_of t ≡ suc k → refused_in t ≡ some x
  least : (k : ℕ) → reason_of t ≡ suc k → i ≤ k

module _ (i : ℕ) (bs : List Bool) (x : Float) (t : Taken) where
  here : reason_of t ≡ suc i → refused_in t ≡ some x → From i (true ∷ bs) x t
  here e f = record {
    taken = λ h j. absurd (omega (arith, e, h));
    holds = λ k h. let z : k ≡ 0 = omega (arith, e, h) in rw z;
    first = λ k h j l. absurd (omega (arith, e, h, l));
    itself = λ k h. f;
    least = λ k h. omega (arith, e, h);
  }

  later : From (suc i) bs x t → From i (false ∷ bs) x t
  later r = record {
    taken = λ h j. skip j (r.taken h);
    holds = λ k h. next k h;
    first = λ k h j l. before k h j l;
    itself = r.itself;
    least = λ k h. omega (arith, r.least k h);
  }
    where
      skip : (j : ℕ) → ((j : ℕ) → get_or bs j false ≡ false) → get_or (false ∷ bs) j false ≡ false
      skip zero h = refl
      skip (suc j) h = h j

      next : (k : ℕ) → reason_of t ≡ suc (i + k) → get_or (false ∷ bs) k false ≡ true
      next zero h = absurd (omega (arith, r.least (i + zero) h))
      next (suc k) h = r.holds k (omega (arith, h))

      before : (k : ℕ) → reason_of t ≡ suc (i + k) → (j : ℕ) → j < k → get_or (false ∷ bs) j false ≡ false
      before zero h j l = absurd (omega (arith, l))
      before (suc k) h zero l = refl
      before (suc k) h (suc j) l = r.first k (omega (arith, h)) j (omega (arith, l))

from_rows : (i : ℕ) (x : Float) (n : ℤ) (rows : List (Bool × Taken)) → Numbered i x rows → From i (tests rows) x (first_row rows (Ok n))
unfolding first_row reason_of
from_rows i x n [] h = record { taken = λ e j. refl; holds = λ k e. absurd (omega (arith, e)); first = λ k e j l. refl; itself = λ k e. absurd (omega (arith, e)); least = λ k e. absurd (omega (arith, e)) }
from_rows i x n ((true, t) ∷ rows) h = here i (tests rows) x t h.0 h.1
from_rows i x n ((false, t) ∷ rows) h = later i (tests rows) x (first_row rows (Ok n)) (from_rows (suc i) x n rows h.2)

first_reason : {bs : List Bool} {x : Float} {t : Taken} → From 0 bs x t → FirstReason bs x t
first_reason r = record {
  taken = r.taken;
  holds = λ k h. r.holds k (h ∙ ap suc (sym (zero-add k)));
  first = λ k h. r.first k (h ∙ ap suc (sym (zero-add k)));
  itself = r.itself;
}

pub coordinate_reason : CoordinateReason
unfolding coordinate_of whole_within reasons reason_of refused_in
coordinate_reason x = first_reason (from_rows 0 x (whole_of x) (reasons 268435456 x) (refl, refl, (refl, refl, (refl, refl, (refl, refl, tt)))))

pub width_reason : WidthReason
unfolding width_of reasons width_reasons reason_of refused_in
width_reason x = first_reason (from_rows 0 x (pos (magnitude_of x / 2)) (reasons 536870912 x ++ width_reasons x) (refl, refl, (refl, refl, (refl, refl, (refl, refl, (refl, refl, (refl, refl, tt)))))))
