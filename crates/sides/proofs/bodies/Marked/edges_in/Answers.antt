-- `sides::bodies::Marked::edges_in` meets its contract: an entry's last word, or the word past the entries. Assumes nothing.
use native.Mathlib.Omega.{arith}
use Rattle.sides.proofs.Answers.{entry_some, entry_inside, closing_inside, entry_edges, closing_edges}
use Rattle.sides.proofs.bodies.Marked.edges_in.Goals as goal

pub overflow_mul-entry : goal.overflow_mul-entry
overflow_mul-entry c = omega (arith, entry_inside c.args.self.now.inside c.args.self.now.of_edition c.entry_words-wide.ensures c.args.i c.if-i-self.true)

pub overflow_add-entry : goal.overflow_add-entry
overflow_add-entry c = omega (arith, entry_inside c.args.self.now.inside c.args.self.now.of_edition c.entry_words-wide.ensures c.args.i c.if-i-self.true)

pub overflow_sub-last : goal.overflow_sub-last
overflow_sub-last c = entry_some c.args.self.now.inside c.args.self.now.of_edition c.entry_words-wide.ensures

pub overflow_add-last : goal.overflow_add-last
overflow_add-last c = omega (arith, entry_inside c.args.self.now.inside c.args.self.now.of_edition c.entry_words-wide.ensures c.args.i c.if-i-self.true)

pub word_at-requires : goal.word_at-requires
word_at-requires c = omega (arith, entry_inside c.args.self.now.inside c.args.self.now.of_edition c.entry_words-wide.ensures c.args.i c.if-i-self.true)

pub returns-then-i-self : goal.returns-then-i-self
returns-then-i-self c = entry_edges c.args.self.now.inside c.args.self.now.of_edition c.entry_words-wide.ensures c.args.i c.if-i-self.true c.word_at.ensures

pub overflow_mul-closing : goal.overflow_mul-closing
overflow_mul-closing c = omega (arith, closing_inside c.args.self.now.inside c.args.self.now.of_edition c.entry_words-wide.ensures)

pub overflow_add-closing : goal.overflow_add-closing
overflow_add-closing c = omega (arith, closing_inside c.args.self.now.inside c.args.self.now.of_edition c.entry_words-wide.ensures)

pub word_at-requires-2 : goal.word_at-requires-2
word_at-requires-2 c = omega (arith, closing_inside c.args.self.now.inside c.args.self.now.of_edition c.entry_words-wide.ensures)

pub returns : goal.returns
returns c = closing_edges c.args.self.now.inside c.args.self.now.of_edition c.entry_words-wide.ensures c.args.i c.if-i-self.false c.word_at-2.ensures
