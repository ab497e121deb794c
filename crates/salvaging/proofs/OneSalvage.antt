-- Two outcomes that the promise allows coincide. Assumes nothing.
use mathlib.Core.Path.{◌≡◌, refl, sym, ◌∙◌}
use Prim.Native.Nat.{ℕ}
use Rattle.replies.proofs.OneOutcome.{from, from_refusal}
use Rattle.salvaging.specs.Salvaging.{reply_of_salvaged, notes_of_salvaged, OneSalvaging}
use Rattle.salvaging.specs.declared.Salvaged.{Salvaged}
use Rattle.replies.specs.declared.Refusal.{Refusal}
use Rattle.std.specs.Prelude.{Result, Ok, Err}

unfoldable outlined : ℕ → ℕ → Result Salvaged Refusal
outlined bytes notes = Ok (record { bytes = bytes; notes = notes })

salvaged_back : (r : Result Salvaged Refusal) → from (λ (n : ℕ). outlined n (notes_of_salvaged r)) Err (reply_of_salvaged r).0 (reply_of_salvaged r).1 ≡ r
unfolding outlined from reply_of_salvaged notes_of_salvaged
salvaged_back (Ok made) = refl
salvaged_back (Err r) = from_refusal (λ (n : ℕ). outlined n 0) Err r

pub one_salvaging : OneSalvaging
one_salvaging s out list r q o p m n h k = (
  sym (salvaged_back r) ∙ (λ i. from (λ (j : ℕ). outlined j ((h.notes ∙ sym k.notes) i)) Err ((h.reply ∙ sym k.reply) i).0 ((h.reply ∙ sym k.reply) i).1) ∙ salvaged_back q,
  h.out ∙ sym k.out,
  h.list ∙ sym k.list,
)
