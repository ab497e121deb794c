-- What read answers, case by case. Assumes nothing.
use Rattle.std.specs.Prelude.{Result, Ok, Err}
use mathlib.Core.Path.{◌≡◌, sym, ap, ◌∙◌}
use mathlib.Core.Bool.{false}
use mathlib.Core.List.{List}
use Prim.Native.Nat.{ℕ, ◌*◌, ◌≤◌, ◌<◌}
use native.Mathlib.Omega.{arith}
use lib.Dec.{eqb}
use lib.IntN.{ℤ}
use lib.ListN.{length, drop}
use Rattle.runs.specs.Runs.{spread, Runs, put}
use Rattle.runs.proofs.Written.{written_whole}
use Rattle.outline.specs.Layout.{header_words}
use Rattle.words.specs.Words.{words_in}
use Rattle.outline.specs.Stores.{form_in, path_in}
use Rattle.replies.specs.Refusals.{refusal_of}
use Rattle.replies.specs.declared.Refusal.{Refusal}
use Rattle.replies.specs.declared.Refusal.TheVariants.{NoRoom}
use Rattle.replies.proofs.Rows.{room_short, room_enough, refusal_some, refused_written, done_written}
use Rattle.heading.specs.Shows.{lent_numbers, lent_width, shown_in, shown_path}
use Rattle.heading.specs.declared.Header.{Header}
use Rattle.heading.proofs.Shown.{shown_path_lem}
use Rattle.checking.specs.StoreChecks.{Sound, StoreSays}
use Rattle.checking.proofs.StoreReads.{store_refuses, store_passes, header_count}
use Rattle.reading.specs.Reading.{read_reply, read_grade, read_form, read_out, reply_of_read, grade_of_read, form_of_read, Reads}

reads_refusal : {s : List ℕ} (out : List ℤ) (r : Refusal) → refusal_of r ≡ read_reply s (length out) → Reads s out (Err r) out
unfolding reply_of_read grade_of_read form_of_read read_grade read_form read_out
reads_refusal {s} out r e =
    let f : eqb (read_reply s (length out)).0 0 ≡ false = rw e at (refusal_some r) in
    record { reply = e; grade = rw (f, read_grade); form = rw (f, read_form); within = tt; out = refused_written r (spread (lent_numbers (form_in s)) (path_in s)) out e }

pub reads_refused : {s : List ℕ} {p : List ℤ} {c : Result Header Refusal} {r : Refusal} (out : List ℤ) → c ≡ Err r → StoreSays s p c → Reads s out (Err r) out
unfolding read_reply
reads_refused {r = r} out e a = reads_refusal out r (store_refuses _ _ a e)

-- w is what the code has for how many numbers a vertex takes
pub room_told : {w j : ℕ} (k n : ℕ) → w ≡ k → w * n ≤ j → k * n ≤ j
room_told k n e h = rw e at h

-- needed is what the code has for the numbers that the path takes
module _ {s : List ℕ} {h : Header} (out : List ℤ) (a : Sound s h) {needed w : ℕ} (ew : w ≡ lent_width h.form) (en : needed ≡ w * h.n) where
  n : ℕ
  n = length (path_in s)

  needed_is : needed ≡ lent_width (form_in s) * n
  unfolding n
  needed_is = en ∙ (λ i. (ew ∙ ap lent_width a.head.form) i * header_count a.head i)

  pub reads_short : length out < needed → Reads s out (Err (NoRoom h.n)) out
  unfolding read_reply n
  reads_short l =
      let e = header_count a.head in
      reads_refusal out (NoRoom h.n) (sym (store_passes _ (0, n) a ∙ room_short (lent_width (form_in s) * n) (length out) n (0, n) (rw needed_is at l) ∙ ap (λ (k : ℕ). (5, k)) (sym e)))

  pub reads_done : {out₁ : List ℤ} → needed ≤ length out → Runs put (lent_numbers h.form) out 0 (shown_in h.form h.n (drop (header_words h.form) (words_in s))) out₁ (lent_width h.form * h.n)
      → Reads s out (Ok (record { vertices = h.n; grade = h.grade; form = h.form })) out₁
  unfolding reply_of_read grade_of_read form_of_read read_reply read_grade read_form read_out shown_path n
  reads_done {out₁} l p =
      let e = header_count a.head in
      let f : shown_in h.form h.n (drop (header_words h.form) (words_in s)) ≡ path_in s = (λ i. shown_in (a.head.form i) (a.head.vertices i) (drop (header_words (a.head.form i)) (words_in s))) ∙ shown_path_lem s a.within.inside in
      let q : Runs put (lent_numbers (form_in s)) out 0 (path_in s) out₁ (lent_width (form_in s) * h.n) = rw (f, a.head.form) at p in
      let k : needed ≡ lent_width (form_in s) * h.n = en ∙ ap (λ (j : ℕ). j * h.n) (ew ∙ ap lent_width a.head.form) in
      let g : (0, h.n) ≡ read_reply s (length out) = ap (λ (j : ℕ). (0, j)) e ∙ sym (store_passes _ (0, n) a ∙ room_enough (lent_width (form_in s) * n) (length out) n (0, n) (rw needed_is at l)) in
      record {
        reply = g;
        grade = a.head.grade ∙ rw (← g, read_grade);
        form = a.head.form ∙ rw (← g, read_form);
        within = a.head.within;
        out = written_whole q (omega (arith, q.pos, k, l)) ∙ done_written h.n (spread (lent_numbers (form_in s)) (path_in s)) out g;
      }
