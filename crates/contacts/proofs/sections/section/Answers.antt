-- `contacts::sections::section` meets its contract: its contacts are those of the step's offsets, which leave room. Assumes nothing.
use Rattle.contacts.proofs.Tangents.{Offset, offsets_ready, offsets_are, left_ready, right_ready, contacts_are, section_is}
use Rattle.contacts.proofs.sections.section.Goals.{After-tangent_offsets-offsets}
use Rattle.contacts.proofs.sections.section.Goals as goal

pub tangent_offsets-offsets-requires : goal.tangent_offsets-offsets-requires
tangent_offsets-offsets-requires c = offsets_ready c.requires.0 c.requires.1 c.line.ensures c.delta.ensures c.requires.2

offsets : (c : After-tangent_offsets-offsets) →
    let s = c.args in
    let o = c.tangent_offsets-offsets.result in
    Offset s.a s.b o.left o.right o.divisor
offsets c =
    let e = c.tangent_offsets-offsets.ensures in
    offsets_are c.requires.0 c.requires.1 c.line.ensures c.delta.ensures e.left e.right e.divisor

pub contacts-left-requires : goal.contacts-left-requires
contacts-left-requires c = left_ready c.requires.0 c.requires.1 c.requires.2 (offsets (goal.at.contacts-left-requires c).After-tangent_offsets-offsets)

pub contacts-right-requires : goal.contacts-right-requires
contacts-right-requires c = right_ready c.requires.0 c.requires.1 c.requires.2 (offsets (goal.at.contacts-right-requires c).After-tangent_offsets-offsets)

pub returns : goal.returns
returns c = section_is _ _ (offsets (goal.at.returns c).After-tangent_offsets-offsets) (contacts_are c.contacts-left.ensures.edge c.contacts-left.ensures.exact) (contacts_are c.contacts-right.ensures.edge c.contacts-right.ensures.exact) c.trend.ensures
