-- An answer is found again from its reply: so a reply has one answer. Assumes nothing.
use Rattle.std.specs.Prelude.{Result, Ok, Err}
use mathlib.Core.Path.{◌≡◌, refl, sym, ap, ◌∙◌}
use mathlib.Core.Bool.{true, false}
use mathlib.Core.List.{List, [], ◌∷◌}
use Prim.Native.Nat.{ℕ, ◌-◌}
use lib.Dec.{eqb}
use lib.ListN.{get_or}
use Rattle.replies.specs.Replies.{Reply}
use Rattle.replies.specs.Refusals.{refusal_of, reply_of}
use Rattle.replies.specs.declared.Refusal.{Refusal}
use Rattle.replies.specs.declared.Refusal.TheVariants.{Uneven, TooMany, Grade, Outside, NoRoom, NotOutline, Kind, NotSound, NoVertex, NoEdge, StyleWord, OtherKind, NotTaken, Damaged, KeyThere, KeyMissing, TableFull, WithoutEdges, NoListRoom}

-- the refusals by number, each with the number beside it
unfoldable pub refusals : ℕ → List Refusal
refusals n = Uneven n ∷ TooMany n ∷ Grade n ∷ Outside n ∷ NoRoom n ∷ NotOutline ∷ Kind n ∷ NotSound n ∷ NoVertex n ∷ NoEdge n ∷ StyleWord n ∷ OtherKind n ∷ NotTaken n ∷ Damaged ∷ KeyThere n ∷ KeyMissing n ∷ TableFull n ∷ WithoutEdges n ∷ NoListRoom n ∷ []

-- the answer that has a reply, for any type of answers: `done` for 0, else the refusal
unfoldable pub from : {A : Type 0} → (ℕ → A) → (Refusal → A) → ℕ → ℕ → A
from done refused k n = elim (eqb k 0) [ true ↦ done n | false ↦ refused (get_or (refusals n) (k - 1) NotOutline) ]

pub from_refusal : {A : Type 0} (done : ℕ → A) (refused : Refusal → A) (r : Refusal) → from done refused (refusal_of r).0 (refusal_of r).1 ≡ refused r
unfolding from refusals
from_refusal done refused (Uneven n) = refl
from_refusal done refused (TooMany n) = refl
from_refusal done refused (Grade g) = refl
from_refusal done refused (Outside i) = refl
from_refusal done refused (NoRoom n) = refl
from_refusal done refused NotOutline = refl
from_refusal done refused (Kind k) = refl
from_refusal done refused (NotSound i) = refl
from_refusal done refused (NoVertex i) = refl
from_refusal done refused (NoEdge i) = refl
from_refusal done refused (StyleWord i) = refl
from_refusal done refused (OtherKind k) = refl
from_refusal done refused (NotTaken i) = refl
from_refusal done refused Damaged = refl
from_refusal done refused (KeyThere k) = refl
from_refusal done refused (KeyMissing k) = refl
from_refusal done refused (TableFull n) = refl
from_refusal done refused (WithoutEdges n) = refl
from_refusal done refused (NoListRoom n) = refl

-- the answer that holds its number alone
answer_back : (r : Result ℕ Refusal) → from Ok Err (reply_of r).0 (reply_of r).1 ≡ r
unfolding from
answer_back (Ok n) = refl
answer_back (Err r) = from_refusal Ok Err r

-- two of them with one reply are one
pub one_answer : (r q : Result ℕ Refusal) → reply_of r ≡ reply_of q → r ≡ q
one_answer r q e = sym (answer_back r) ∙ ap (λ (x : Reply). from Ok Err x.0 x.1) e ∙ answer_back q
