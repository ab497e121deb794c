-- What the limits leave of chains and walks: what the functions below the calls ask for.
use Rattle.variable_stroke.specs.declared.Chain.{Chain}
use Rattle.variable_stroke.specs.declared.Walk.{Walk}
use Rattle.contacts.specs.Bounds.{Inside, AroundLast}

pub record AroundChain (c : Chain) : Type 0 where
  pub start : Inside c.start
  pub last : AroundLast c.last

pub record AroundWalk (w : Walk) : Type 0 where
  pub at : Inside w.at
  pub chain : AroundChain w.chain
  pub previous : AroundLast w.previous
