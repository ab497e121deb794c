-- After making: the table is sound. Assumes nothing.
use mathlib.Core.Path.{◌≡◌, refl, sym, ap, ◌∙◌}
use mathlib.Core.Bool.{true, false}
use mathlib.Core.Logic.{inl, ⊎_elim}
use mathlib.Core.List.{List}
use Prim.Native.Nat.{ℕ, ◌+◌, ◌-◌, ◌*◌, ◌≤◌, ◌<◌}
use native.Mathlib.Omega.{arith}
use borrow.Author.Tests.{lt-ltb, le-ltb}
use lib.ListN.{length, get_or, replicate, length-replicate, get_or-replicate}
use Rattle.runs.specs.Runs.{over, put}
use Rattle.words.specs.Words.{four_bytes, word_from}
use Rattle.replies.specs.Replies.{Reply, first_row}
use Rattle.chunk_table.specs.Tables.{table_bytes, entry_count, used_at, damaged_in}
use Rattle.chunks.specs.Calls.{make_row, make_reply, make_out}
use Rattle.chunk_laws.specs.Theorems.{MadeIsSound}
use Rattle.replies.proofs.Rows.{done_written}
use Rattle.chunk_table.proofs.Below.{not_both, less_or}
use Rattle.chunk_table.proofs.SoundTables.{SoundTable, table_sound, empty_used}
use Rattle.chunks.proofs.Answered.{table_laid}
use Rattle.chunks.proofs.Laid.{over-length, over_in_at, word_out, word_in}

module _ (c : List ℕ) (n : ℕ) (small : length c ≤ 4294967295) (few : n ≤ 1024) (room : table_bytes n ≤ length c) where
  abbrev Made : List ℕ
  Made = over put (over put c 0 (four_bytes n)) 4 (replicate (12 * n) 0)

  long : length Made ≡ length c
  long = over-length (over put c 0 (four_bytes n)) 4 (replicate (12 * n) 0) ∙ over-length c 0 (four_bytes n)

  count : entry_count Made ≡ n
  count = word_out (over put c 0 (four_bytes n)) 4 (replicate (12 * n) 0) 0 (inl (omega arith)) ∙ word_in c 0 n (omega arith) (omega arith)

  zero_at : (p : ℕ) → 4 ≤ p → p < table_bytes n → get_or Made p 0 ≡ 0
  zero_at p l h =
      over_in_at (over put c 0 (four_bytes n)) 4 (replicate (12 * n) 0) p (p - 4) (omega arith) (omega (arith, length-replicate {A = ℕ} (12 * n) 0, over-length c 0 (four_bytes n))) (omega (arith, length-replicate {A = ℕ} (12 * n) 0))
      ∙ get_or-replicate (12 * n) (p - 4) 0 0 (omega arith)

  unused : (i : ℕ) → i < n → used_at Made i ≡ false
  unfolding word_from
  unused i d =
      let at : (k : ℕ) → k < 4 → get_or Made (12 + 12 * i + k) 0 ≡ 0 = λ k e. zero_at (12 + 12 * i + k) (omega arith) (omega arith) in
      empty_used Made i refl (omega (arith, zero_at (12 + 12 * i) (omega arith) (omega arith), at 1 (omega arith), at 2 (omega arith), at 3 (omega arith)))

  made_sound : SoundTable Made
  made_sound =
      let no : (j : ℕ) → j < entry_count Made → used_at Made j ≡ true → ⊥ = λ j d u. not_both u (unused j (omega (arith, count))) in
      record {
        small = omega (arith, long);
        head = omega (arith, long);
        few = omega (arith, count);
        table = omega (arith, count, long);
        low = λ j d u. absurd (no j d u);
        high = λ j d u. absurd (no j d u);
        keys = λ i j l d u v e. no j d v;
        apart = λ i j l d u v. absurd (no j d v);
      }

  made_out : make_out c n ≡ Made
  unfolding make_out make_reply first_row make_row
  made_out =
      let r : make_reply c n ≡ (0, table_bytes n) = rw (le-ltb 4294967295 (length c) small, le-ltb 1024 n few, le-ltb (length c) (table_bytes n) room) in
      sym (table_laid c n room ∙ done_written (table_bytes n) _ c (sym r))

pub made_is_sound : MadeIsSound
unfolding make_reply first_row make_row
made_is_sound c n e =
    ⊎_elim
    (λ a. let r : make_reply c n ≡ (14, 0) = rw (lt-ltb 4294967295 (length c) a) in refused r)
    (λ a. ⊎_elim
    (λ b. let r : make_reply c n ≡ (14, 0) = rw (le-ltb 4294967295 (length c) a, lt-ltb 1024 n b) in refused r)
    (λ b. ⊎_elim
    (λ d. let r : make_reply c n ≡ (14, 0) = rw (le-ltb 4294967295 (length c) a, le-ltb 1024 n b, lt-ltb (length c) (table_bytes n) d) in refused r)
    (λ d. ap damaged_in (made_out c n a b d) ∙ table_sound _ (made_sound c n a b d))
    (less_or (length c) (table_bytes n)))
    (less_or 1024 n))
    (less_or 4294967295 (length c))
  where
    refused : make_reply c n ≡ (14, 0) → damaged_in (make_out c n) ≡ false
    refused r = let z : ◌≡◌ {A = ℕ} 14 0 = sym (ap (λ (x : Reply). x.0) r) ∙ e in absurd (omega arith)
