-- `run_arcs::numbers::whole` meets its contract: both vertices are allowed, and the kind of the step was looked at. Assumes nothing.
use Rattle.std.proofs.Common.{sym, ◌∙◌}
use Rattle.contacts.proofs.Contacts.{section_around}
use Rattle.contacts.proofs.Steps.{drawn_whole, thin_whole}
use Rattle.run_arcs.proofs.Guards.{inside_told}
use Rattle.run_arcs.proofs.numbers.whole.Goals as goal

pub kind-requires : goal.kind-requires
kind-requires c = (inside_told c.allowed.ensures c.if-not-allowed.false, inside_told c.allowed-2.ensures c.if-not-allowed-2.false)

pub section-requires : goal.section-requires
section-requires c =
    let h = inside_told c.allowed.ensures c.if-not-allowed.false in
    let k = inside_told c.allowed-2.ensures c.if-not-allowed-2.false in
    (h, k, drawn_whole _ _ (sym c.kind.ensures ∙ c.in-Drawn.is))

pub section-requires-in-Thin : goal.section-requires-in-Thin
section-requires-in-Thin c =
    let h = inside_told c.allowed.ensures c.if-not-allowed.false in
    let k = inside_told c.allowed-2.ensures c.if-not-allowed-2.false in
    (h, k, thin_whole _ _ (sym c.kind.ensures ∙ c.in-Thin.is))

pub returns-in-Drawn-clause-whole : goal.returns-in-Drawn-clause-whole
returns-in-Drawn-clause-whole c =
    let h = inside_told c.allowed.ensures c.if-not-allowed.false in
    let k = inside_told c.allowed-2.ensures c.if-not-allowed-2.false in
    (h, k, drawn_whole _ _ (sym c.kind.ensures ∙ c.in-Drawn.is))

pub returns-in-Drawn-clause-around : goal.returns-in-Drawn-clause-around
returns-in-Drawn-clause-around c =
    let h = inside_told c.allowed.ensures c.if-not-allowed.false in
    let k = inside_told c.allowed-2.ensures c.if-not-allowed-2.false in
    rw c.section.ensures (section_around h k (drawn_whole _ _ (sym c.kind.ensures ∙ c.in-Drawn.is)))

pub returns-in-Thin-clause-whole : goal.returns-in-Thin-clause-whole
returns-in-Thin-clause-whole c =
    let h = inside_told c.allowed.ensures c.if-not-allowed.false in
    let k = inside_told c.allowed-2.ensures c.if-not-allowed-2.false in
    (h, k, thin_whole _ _ (sym c.kind.ensures ∙ c.in-Thin.is))

pub returns-in-Thin-clause-around : goal.returns-in-Thin-clause-around
returns-in-Thin-clause-around c =
    let h = inside_told c.allowed.ensures c.if-not-allowed.false in
    let k = inside_told c.allowed-2.ensures c.if-not-allowed-2.false in
    rw c.section-in-Thin.ensures (section_around h k (thin_whole _ _ (sym c.kind.ensures ∙ c.in-Thin.is)))
