-- `comparing::compare::Comparing::end` meets its contract: the closing edges stand in `own`, and are compared as words. Assumes nothing.
use mathlib.Core.List.{[]}
use mathlib.Core.List.{◌∷◌}
use mathlib.Core.Path.{ap}
use native.Mathlib.Omega.{arith}
use Rattle.runs.proofs.Laws.{runs_as}
use Rattle.words.proofs.OneWord.{word_room}
use Rattle.outline.proofs.OwnNumbers.{close_most, own_room, own_small, own_count, own_inside, own_words}
use Rattle.comparing.proofs.compare.Comparing.end.Goals as goal

pub close-n-requires : goal.close-n-requires
close-n-requires c = record { unit_long = (c.requires.unit_long, c.requires.around); room = own_room (close_most c.args.t c.args.self.walk) }

pub overflow_cast-n : goal.overflow_cast-n
overflow_cast-n c = omega (arith, own_small (close_most c.args.t c.args.self.walk) c.close-n.ensures)

pub same_word-table-requires : goal.same_word-table-requires
same_word-table-requires c = word_room _ (omega arith)

pub same_numbers-bodies-requires : goal.same_numbers-bodies-requires
same_numbers-bodies-requires c = record { n_in_bounds = own_inside (close_most c.args.t c.args.self.walk) c.close-n.ensures (c.requires.step_room.end c.args.self.walk); n_bound = omega (arith, own_small (close_most c.args.t c.args.self.walk) c.close-n.ensures, c.requires.no_wrap.1) }

pub overflow_mul-end : goal.overflow_mul-end
overflow_mul-end c = omega (arith, own_small (close_most c.args.t c.args.self.walk) c.close-n.ensures)

pub overflow_add-end : goal.overflow_add-end
overflow_add-end c = omega (arith, own_small (close_most c.args.t c.args.self.walk) c.close-n.ensures, c.requires.no_wrap.1)

pub returns : goal.returns
returns c =
    let m = close_most c.args.t c.args.self.walk in
    let p = c.close-n.ensures in
    record {
      table = runs_as (ap (λ k. k ∷ []) (own_count m p)) c.same_word-table.ensures;
      bodies = runs_as (own_words m p (c.requires.step_room.end c.args.self.walk)) c.same_numbers-bodies.ensures;
    }
