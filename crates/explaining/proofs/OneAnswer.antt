-- Two outcomes that a promise allows coincide. Assumes nothing.
use Rattle.std.specs.Prelude.{ℕ, Result, Ok, Err}
use mathlib.Core.Path.{◌≡◌, refl, sym, ◌∙◌}
use Rattle.reasons.specs.Lists.{unnamed}
use Rattle.reasons.specs.declared.Why.{Why}
use Rattle.replies.specs.declared.Refusal.{Refusal}
use Rattle.replies.proofs.OneOutcome.{from, from_refusal, one_answer}
use Rattle.explaining.specs.Explaining.{reply_of_explained, why_of_explained, OneExplanation, OneListing}
use Rattle.explaining.specs.declared.Explained.{Explained}

made : Why → ℕ → Result Explained Refusal
made w k = Ok (record { edge = k; why = w })

explained_back : (r : Result Explained Refusal) → from (made (why_of_explained r)) Err (reply_of_explained r).0 (reply_of_explained r).1 ≡ r
unfolding from reply_of_explained why_of_explained made
explained_back (Ok e) = refl
explained_back (Err r) = from_refusal (made unnamed) Err r

pub one_explanation : OneExplanation
one_explanation s k r q h i =
    sym (explained_back r) ∙ (λ j. from (made ((h.why ∙ sym i.why) j)) Err ((h.reply ∙ sym i.reply) j).0 ((h.reply ∙ sym i.reply) j).1) ∙ explained_back q

pub one_listing : OneListing
one_listing s out r q o p h i = (one_answer r q (h.reply ∙ sym i.reply), h.out ∙ sym i.out)
