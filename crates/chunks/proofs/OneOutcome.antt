-- Each answer has a reply of its own, so a promise allows one answer. Assumes nothing.
use Rattle.std.specs.Prelude.{Result, Ok, Err}
use mathlib.Core.Path.{◌≡◌, refl, sym, ap, ◌∙◌}
use Rattle.replies.specs.Replies.{Reply}
use Rattle.replies.specs.declared.Refusal.{Refusal}
use Rattle.chunks.specs.Answers.{reply_of_found, offset_of_found, OneMaking, OneFinding, OneRemoving, OneCompacting}
use Rattle.replies.proofs.OneOutcome.{from, from_refusal, one_answer}
use Rattle.chunks.specs.declared.part.Part.{Part}
use Prim.Native.Nat.{ℕ}

found_at : ℕ → ℕ → Result Part Refusal
found_at o n = Ok (record { offset = o; size = n })

found_back : (r : Result Part Refusal) → from (found_at (offset_of_found r)) Err (reply_of_found r).0 (reply_of_found r).1 ≡ r
unfolding from found_at reply_of_found offset_of_found
found_back (Ok p) = refl
found_back (Err r) = from_refusal (found_at 0) Err r

pub one_making : OneMaking
one_making c n r q o p h k = (one_answer r q (h.reply ∙ sym k.reply), h.chunk ∙ sym k.chunk)

pub one_finding : OneFinding
one_finding c key r q h k =
    sym (found_back r)
    ∙ ap (λ (x : Reply). from (found_at (offset_of_found r)) Err x.0 x.1) (h.reply ∙ sym k.reply)
    ∙ ap (λ o. from (found_at o) Err (reply_of_found q).0 (reply_of_found q).1) (h.offset ∙ sym k.offset)
    ∙ found_back q

pub one_removing : OneRemoving
one_removing c key r q o p h k = (one_answer r q (h.reply ∙ sym k.reply), h.chunk ∙ sym k.chunk)

pub one_compacting : OneCompacting
one_compacting c r q o p h k = (one_answer r q (h.reply ∙ sym k.reply), h.chunk ∙ sym k.chunk)
