-- `heading::shows::show_vertices` meets its contract: what is left of the table is shown on, entry by entry. Assumes nothing.
use Prim.Native.Nat.{◌-◌, ◌*◌}
use lib.ListN.{drop}
use Rattle.runs.proofs.Onward.{Onward}
use Rattle.runs.specs.Runs.{put}
use Rattle.paths.specs.Paths.{vertex_numbers}
use Rattle.outline.specs.Layout.{header_words, entry_at}
use Rattle.outline.specs.declared.Form.TheVariants.{Stroke}
use Rattle.heading.specs.Shows.{shown_in}
use Rattle.words.specs.Words.{words_in}
use Rattle.heading.proofs.shows.show_vertices.Given as goal

abbrev pub invariant-loop-k : goal.invariant-loop-k
invariant-loop-k l = Onward put vertex_numbers l.initial.out 0 (shown_in (Stroke l.edition) l.n (drop (header_words (Stroke l.edition)) (words_in l.s))) l.out (3 * l.k) (shown_in (Stroke l.edition) (l.n - l.k) (drop (entry_at (Stroke l.edition) l.k) (words_in l.s)))
