-- What add answers, case by case: 14, a refusal of the outline's own rows, or what putting its own bytes comes to. Assumes nothing.
use Rattle.std.specs.Prelude.{Result, Err}
use mathlib.Core.Path.{◌≡◌, sym, ap, ◌∙◌}
use mathlib.Core.Bool.{true, false}
use mathlib.Core.List.{List, ◌++◌}
use Prim.Native.Nat.{ℕ, ◌≤◌}
use native.Mathlib.Omega.{arith}
use lib.IntN.{ℤ}
use lib.ListN.{length, take}
use lib.Seq.{length-take-le}
use Rattle.replies.specs.Refusals.{refusal_of}
use Rattle.replies.specs.Replies.{Reply, first_row}
use Rattle.outline.specs.Layout.{length_of}
use Rattle.outline.specs.Stores.{length_in}
use Rattle.checking.specs.StoreChecks.{Sound, StoreSays}
use Rattle.heading.specs.StoreRows.{store_rows}
use Rattle.chunk_table.specs.Tables.{damaged_in}
use Rattle.chunks.specs.Answers.{PutsOutline}
use Rattle.chunks.specs.Calls.{table_row, put_rows, put_reply, put_out, added_in, changed}
use Rattle.chunks.specs.Chunks.{gap_in}
use Rattle.chunk_adding.specs.Adding.{own_bytes, add_reply, add_out, AddsOutline, OneAdding}
use Rattle.replies.proofs.Rows.{refusal_some}
use Rattle.checking.proofs.StoreReads.{store_refuses, store_passes, header_length}
use Rattle.chunks.proofs.Answered.{kept_chunk}
use Rattle.replies.proofs.OneOutcome.{one_answer}
use Rattle.replies.specs.declared.Refusal.{Refusal}
use Rattle.replies.specs.declared.Refusal.TheVariants.{Damaged}
use Rattle.heading.specs.declared.Header.{Header}
use Rattle.heading.specs.declared.Header.{Header}

module _ (c : List ℕ) (key : ℕ) (s : List ℕ) where
  pub reply_damaged : damaged_in c ≡ true → add_reply c key s ≡ (14, 0)
  unfolding add_reply first_row table_row
  reply_damaged h = rw (h, first_row)

  pub reply_rows : damaged_in c ≡ false → add_reply c key s ≡ first_row (store_rows s ++ put_rows c key (length_in s)) (0, length_in s)
  unfolding add_reply first_row table_row
  reply_rows h = rw (h, first_row)

  adds_refusal : (r : Refusal) → refusal_of r ≡ add_reply c key s → AddsOutline c key s (Err r) c
  unfolding add_out
  adds_refusal r e = record { reply = e; chunk = kept_chunk _ c (sym e) (refusal_some r) }

  pub adds_damaged : damaged_in c ≡ true → AddsOutline c key s (Err Damaged) c
  adds_damaged h = adds_refusal Damaged (sym (reply_damaged h))

  pub adds_refused : {p : List ℤ} {k : Result Header Refusal} {r : Refusal} → damaged_in c ≡ false → k ≡ Err r → StoreSays s p k → AddsOutline c key s (Err r) c
  adds_refused {r = r} h e a = adds_refusal r (store_refuses _ _ a e ∙ sym (reply_rows h))

  -- where the outline's rows are passed, the chunk is that of putting its own bytes
  module _ (e : add_reply c key s ≡ put_reply c key (length_in s)) (l : length (own_bytes s) ≡ length_in s) where
    pub as_put_reply : add_reply c key s ≡ put_reply c key (length (own_bytes s))
    as_put_reply = e ∙ ap (put_reply c key) (sym l)

    pub as_put : add_out c key s ≡ put_out c key (own_bytes s)
    unfolding add_out put_out
    as_put =
        ap (λ (r : Reply). changed r (added_in (gap_in c (length_in s)) c key (own_bytes s)) c) e
        ∙ ap (λ (n : ℕ). changed (put_reply c key n) (added_in (gap_in c n) c key (own_bytes s)) c) (sym l)

  adds_own : {h : Header} {r : Result ℕ Refusal} {c₁ : List ℕ} → damaged_in c ≡ false → Sound s h → PutsOutline c key (own_bytes s) r c₁ → AddsOutline c key s r c₁
  unfolding own_bytes put_reply
  adds_own h a p =
      let e : add_reply c key s ≡ put_reply c key (length_in s) = reply_rows h ∙ store_passes _ (0, length_in s) a in
      let l : length (own_bytes s) ≡ length_in s = length-take-le (length_in s) s a.head.headed.long in
      record { reply = p.reply ∙ sym (as_put_reply e l); chunk = p.chunk ∙ sym (as_put e l) }

  -- the outline's own bytes, lent as a part of the store
  pub adds_put : {h : Header} {end : ℕ} {r : Result ℕ Refusal} {c₁ : List ℕ} → damaged_in c ≡ false → Sound s h → end ≡ length_of h.form h.n h.m → PutsOutline c key (take end s) r c₁ → AddsOutline c key s r c₁
  unfolding own_bytes
  adds_put {end = end} h a e p =
      let f : take end s ≡ own_bytes s = ap (λ (n : ℕ). take n s) (e ∙ header_length a.head) in
      adds_own h a (rw f at p)

pub own_long : {s : List ℕ} {h : Header} → Sound s h → length_of h.form h.n h.m ≤ length s
own_long a = omega (arith, header_length a.head, a.head.headed.long)

pub one_adding : OneAdding
one_adding c key s r q o p h k = (one_answer r q (h.reply ∙ sym k.reply), h.chunk ∙ sym k.chunk)
