-- Two outcomes that the promise allows coincide. Assumes nothing.
use Rattle.std.specs.Prelude.{ℕ, Result, Ok, Err}
use mathlib.Core.Path.{◌≡◌, refl, sym, ◌∙◌}
use Rattle.reading.specs.Reading.{reply_of_read, grade_of_read, form_of_read, OneReading}
use Rattle.reading.specs.declared.Read.{Read}
use Rattle.outline.specs.declared.Edition.TheVariants.{First}
use Rattle.outline.specs.declared.Form.{Form}
use Rattle.outline.specs.declared.Form.TheVariants.{Stroke}
use Rattle.replies.specs.declared.Refusal.{Refusal}
use Rattle.replies.proofs.OneOutcome.{from, from_refusal}

made : ℕ → Form → ℕ → Result Read Refusal
made g f n = Ok (record { vertices = n; grade = g; form = f })

read_back : (r : Result Read Refusal) → from (made (grade_of_read r) (form_of_read r)) Err (reply_of_read r).0 (reply_of_read r).1 ≡ r
unfolding from reply_of_read grade_of_read form_of_read made
read_back (Ok read) = refl
read_back (Err r) = from_refusal (made 0 (Stroke First)) Err r

pub one_reading : OneReading
one_reading s out r q o p h k = (
  sym (read_back r) ∙ (λ i. from (made ((h.grade ∙ sym k.grade) i) ((h.form ∙ sym k.form) i)) Err ((h.reply ∙ sym k.reply) i).0 ((h.reply ∙ sym k.reply) i).1) ∙ read_back q,
  h.out ∙ sym k.out,
)
