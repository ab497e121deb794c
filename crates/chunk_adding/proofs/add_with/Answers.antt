-- `chunk_adding::add_with` meets its contract: a refusal is that of the table or of the shared rows; an outline that passed them is put in. Assumes nothing.
use mathlib.Core.Path.{sym, ◌∙◌}
use Rattle.heading.proofs.Handed.{handed_with}
use Rattle.chunk_adding.specs.Adding.{AddsOutline}
use Rattle.chunk_adding.proofs.Added.{adds_damaged, adds_refused}
use Rattle.chunk_adding.proofs.add_with.Goals as goal

pub returns-then-damaged : goal.returns-then-damaged
returns-then-damaged c = adds_damaged _ _ _ (sym c.damaged.ensures ∙ c.if-damaged.true)

pub returns-in_err-header : goal.returns-in_err-header
returns-in_err-header c = handed_with (AddsOutline _ _ _) c.from_residual.ensures.1 (adds_refused _ _ _ (sym c.damaged.ensures ∙ c.if-damaged.false) c.in_err-header.was c.check.ensures)
