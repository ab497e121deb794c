-- After an addition: what is known of putting an outline's own bytes holds of add. Assumes nothing.
use mathlib.Core.Path.{◌≡◌, sym, ap, ◌∙◌}
use mathlib.Core.Bool.{false}
use mathlib.Core.Logic.{⊎_elim}
use mathlib.Core.List.{List}
use Prim.Native.Nat.{ℕ}
use native.Mathlib.Omega.{arith}
use borrow.Author.Tests.{eqb-true}
use lib.Dec.{eqb}
use lib.ListN.{length}
use lib.Seq.{length-take-le}
use Rattle.replies.specs.Replies.{Reply}
use Rattle.outline.specs.Stores.{length_in, due_in}
use Rattle.heading.specs.StoreRows.{store_rows}
use Rattle.chunk_table.specs.Tables.{damaged_in}
use Rattle.chunks.specs.Calls.{put_reply, put_out, find_reply, changed}
use Rattle.chunk_laws.specs.Theorems.{found_bytes}
use Rattle.chunk_adding.specs.Adding.{own_bytes, add_reply, add_out}
use Rattle.chunk_theorems.specs.AfterAdd.{AddedIsSound, AddedIsFound, AddingKeeps}
use Rattle.chunk_table.proofs.Below.{test}
use Rattle.chunk_laws.proofs.AfterPut.{put_is_sound, put_is_found, putting_keeps}
use Rattle.chunk_adding.proofs.Added.{reply_damaged, reply_rows, as_put_reply, as_put}
use Rattle.replies.proofs.Rows.{rows_zero}
use Rattle.checking.proofs.StorePassed.{store_coded, passed_long}
use Rattle.chunk_theorems.proofs.StorePassed.{passed_due, outline_some}

-- after 0: the table was sound, and the chunk is that of putting the outline's own bytes
record AddedIs (c : List ℕ) (key : ℕ) (s : List ℕ) : Type 0 where
  sound : damaged_in c ≡ false
  long : length (own_bytes s) ≡ length_in s
  due : own_bytes s ≡ due_in s
  reply : add_reply c key s ≡ put_reply c key (length (own_bytes s))
  out : add_out c key s ≡ put_out c key (own_bytes s)

added_is : (c : List ℕ) (key : ℕ) (s : List ℕ) → (add_reply c key s).0 ≡ 0 → AddedIs c key s
unfolding own_bytes put_reply
added_is c key s e =
    ⊎_elim
    (λ h. let z : ◌≡◌ {A = ℕ} 14 0 = ap (λ (r : Reply). r.0) (sym (reply_damaged c key s h)) ∙ e in absurd (omega arith))
    (λ h.
    let a = reply_rows c key s h in
    let r = rows_zero (store_rows s) _ _ (store_coded s) (ap (λ (x : Reply). x.0) (sym a) ∙ e) in
    let l : length (own_bytes s) ≡ length_in s = length-take-le (length_in s) s (passed_long s r.0) in
    let f : add_reply c key s ≡ put_reply c key (length_in s) = a ∙ r.1 in
    record { sound = h; long = l; due = passed_due s r.0; reply = as_put_reply c key s f l; out = as_put c key s f l })
    (test (damaged_in c))

-- after a refusal the chunk is as it was
added_not : (c : List ℕ) (key : ℕ) (s : List ℕ) → eqb (add_reply c key s).0 0 ≡ false → add_out c key s ≡ c
unfolding add_out changed
added_not c key s e = rw (e, changed)

pub added_is_sound : AddedIsSound
added_is_sound c key s k h =
    ⊎_elim
    (λ t. let a = added_is c key s (eqb-true _ _ t) in ap damaged_in a.out ∙ put_is_sound c key (own_bytes s) k h)
    (λ t. ap damaged_in (added_not c key s t) ∙ h)
    (test (eqb (add_reply c key s).0 0))

pub added_is_found : AddedIsFound
added_is_found c key s k e =
    let a = added_is c key s e in
    let f = put_is_found c key (own_bytes s) k (omega (arith, a.long, outline_some s)) a.sound (ap (λ (r : Reply). r.0) (sym a.reply) ∙ e) in
    let b : found_bytes (add_out c key s) key ≡ own_bytes s = ap (λ t. found_bytes t key) a.out ∙ f.1 in
    (ap (λ t. find_reply t key) a.out ∙ f.0 ∙ ap (λ (n : ℕ). (0, n)) a.long, b, b ∙ a.due)

pub adding_keeps : AddingKeeps
adding_keeps c key s k short n =
    ⊎_elim
    (λ t. let a = added_is c key s (eqb-true _ _ t) in ap (λ x. found_bytes x k) a.out ∙ putting_keeps c key (own_bytes s) k short a.sound n)
    (λ t. ap (λ x. found_bytes x k) (added_not c key s t))
    (test (eqb (add_reply c key s).0 0))
