-- `differences::fronts::Front::old_count` meets its contract: a vertex has its count last in its entry, the closing body after the entries. Assumes nothing.
use native.Mathlib.Omega.{arith}
use Rattle.differences.proofs.EdgesCompared.{places, last_place, vertex_count, closing_count}
use Rattle.differences.proofs.Fronted.{fronted}
use Rattle.differences.proofs.fronts.Front.old_count.Goals as goal

pub overflow_mul-entry : goal.overflow_mul-entry
overflow_mul-entry c = omega (arith, (places (fronted c.args.self.now) c.entry_words-wide.ensures c.args.i c.requires).0)

pub overflow_add-entry : goal.overflow_add-entry
overflow_add-entry c = omega (arith, (places (fronted c.args.self.now) c.entry_words-wide.ensures c.args.i c.requires).0)

pub overflow_sub-last : goal.overflow_sub-last
overflow_sub-last c = omega (arith, (places (fronted c.args.self.now) c.entry_words-wide.ensures c.args.i c.requires).2)

pub overflow_add-entry-then-i-self : goal.overflow_add-entry-then-i-self
overflow_add-entry-then-i-self c = omega (arith, (places (fronted c.args.self.now) c.entry_words-wide.ensures c.args.i c.requires).0, (places (fronted c.args.self.now) c.entry_words-wide.ensures c.args.i c.requires).3)

pub word_at-requires : goal.word_at-requires
word_at-requires c = last_place (fronted c.args.self.now) c.entry_words-wide.ensures c.args.i c.if-i-self.true

pub returns-then-i-self : goal.returns-then-i-self
returns-then-i-self c = vertex_count (fronted c.args.self.now) c.entry_words-wide.ensures c.args.i c.if-i-self.true c.word_at.ensures

pub word_at-requires-else-i-self : goal.word_at-requires-else-i-self
word_at-requires-else-i-self c = (places (fronted c.args.self.now) c.entry_words-wide.ensures c.args.i c.requires).1

pub returns-else-i-self : goal.returns-else-i-self
returns-else-i-self c = closing_count (fronted c.args.self.now) c.entry_words-wide.ensures c.args.i c.if-i-self.false c.requires c.word_at-else-i-self.ensures
