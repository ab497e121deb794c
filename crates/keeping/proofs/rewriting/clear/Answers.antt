-- `keeping::rewriting::clear` meets its contract: zeros as far as the bytes go. Assumes nothing.
use borrow.Author.Rules.{rules}
use native.Mathlib.Omega.{arith}
use Rattle.keeping.proofs.Rewrites.{clear_none, clear_some}
use Rattle.keeping.proofs.rewriting.clear.Goals as goal

pub returns-then-from-end : goal.returns-then-from-end
returns-then-from-end c = clear_some c.args.s.now c.args.from c.args.to (search rules) c.if-from-end.true (c.fill.ensures.after (λ y h. h))

pub returns-else-from-end : goal.returns-else-from-end
returns-else-from-end c = clear_none c.args.s.now c.args.from c.args.to (omega arith)
