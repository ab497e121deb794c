-- A pass's reply as an answer of import or export, and that each promise allows one answer. Assumes nothing.
use Rattle.std.proofs.Common.{◌≡◌, ℕ, List, ℤ, sym, ◌∙◌}
use lib.Ieee.{Float}
use Rattle.std.specs.Prelude.{Result}
use Rattle.replies.specs.Replies.{Reply}
use Rattle.replies.specs.Refusals.{reply_of}
use Rattle.replies.specs.declared.Refusal.{Refusal}
use Rattle.replies.proofs.OneOutcome.{one_answer}
use Rattle.oldest.specs.Calls.{coordinate_in, radius_in, import_reply, import_out, coordinate_out, width_out, export_reply, export_out}
use Rattle.oldest.specs.Converts.{Passes}
use Rattle.oldest.specs.Answers.{Imports, Exports}
use Rattle.oldest.specs.Theorems.{OneImport, OneExport}

pub imports : {floats : List Float} {out out₁ : List ℤ} {a : Result ℕ Refusal} {told : Reply} → reply_of a ≡ told → Passes coordinate_in radius_in floats out told out₁ → Imports floats out a out₁
unfolding import_reply import_out
imports e p = record { reply = e ∙ p.reply; out = p.out }

pub exports : {numbers : List ℤ} {out out₁ : List Float} {a : Result ℕ Refusal} {told : Reply} → reply_of a ≡ told → Passes coordinate_out width_out numbers out told out₁ → Exports numbers out a out₁
unfolding export_reply export_out
exports e p = record { reply = e ∙ p.reply; out = p.out }

pub one_import : OneImport
one_import floats out r q o p h k = (one_answer r q (h.reply ∙ sym k.reply), h.out ∙ sym k.out)

pub one_export : OneExport
one_export numbers out r q o p h k = (one_answer r q (h.reply ∙ sym k.reply), h.out ∙ sym k.out)
