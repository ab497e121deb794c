-- `heading::shows::show_vertex` meets its contract: each number is stored as it is, in its place. Assumes nothing.
use mathlib.Core.Path.{ap}
use Prim.Native.Nat.{ℕ, ◌*◌}
use Rattle.outline.proofs.FormLengths.{entries_four, entry_most}
use native.Mathlib.Omega.{arith}
use Rattle.heading.proofs.Shown.{vertex_shown}
use Rattle.heading.proofs.shows.show_vertex.Goals as goal

pub overflow_mul-entry : goal.overflow_mul-entry
overflow_mul-entry c = omega (arith, c.requires.0, c.entry_words-wide.ensures, ap (λ (w : ℕ). w * c.args.k) c.entry_words-wide.ensures, entries_four c.args.edition c.args.k, (entry_most c.args.edition).0, c.well_formed.0.0)

pub overflow_add-entry : goal.overflow_add-entry
overflow_add-entry c = omega (arith, c.requires.0, c.entry_words-wide.ensures, ap (λ (w : ℕ). w * c.args.k) c.entry_words-wide.ensures, entries_four c.args.edition c.args.k, (entry_most c.args.edition).0, c.well_formed.0.0)

pub word_at-requires : goal.word_at-requires
word_at-requires c = omega (arith, c.requires.0, c.entry_words-wide.ensures, ap (λ (w : ℕ). w * c.args.k) c.entry_words-wide.ensures, entries_four c.args.edition c.args.k, (entry_most c.args.edition).0, c.well_formed.0.0)

pub overflow_add-entry-2 : goal.overflow_add-entry-2
overflow_add-entry-2 c = omega (arith, c.requires.0, c.entry_words-wide.ensures, ap (λ (w : ℕ). w * c.args.k) c.entry_words-wide.ensures, entries_four c.args.edition c.args.k, (entry_most c.args.edition).0, c.well_formed.0.0)

pub word_at-requires-2 : goal.word_at-requires-2
word_at-requires-2 c = omega (arith, c.requires.0, c.entry_words-wide.ensures, ap (λ (w : ℕ). w * c.args.k) c.entry_words-wide.ensures, entries_four c.args.edition c.args.k, (entry_most c.args.edition).0, c.well_formed.0.0)

pub overflow_add-entry-3 : goal.overflow_add-entry-3
overflow_add-entry-3 c = omega (arith, c.requires.0, c.entry_words-wide.ensures, ap (λ (w : ℕ). w * c.args.k) c.entry_words-wide.ensures, entries_four c.args.edition c.args.k, (entry_most c.args.edition).0, c.well_formed.0.0)

pub word_at-requires-3 : goal.word_at-requires-3
word_at-requires-3 c = omega (arith, c.requires.0, c.entry_words-wide.ensures, ap (λ (w : ℕ). w * c.args.k) c.entry_words-wide.ensures, entries_four c.args.edition c.args.k, (entry_most c.args.edition).0, c.well_formed.0.0)

pub returns : goal.returns
returns c = vertex_shown c.args.edition c.args.s.now c.args.k c.entry_words-wide.ensures c.signed-x.type_inv c.signed-y.type_inv c.signed-radius.type_inv c.signed-x.ensures c.signed-y.ensures c.signed-radius.ensures c.word_at.ensures c.word_at-2.ensures c.word_at-3.ensures
