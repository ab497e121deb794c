-- `comparing::compare::Comparing::step` meets its contract: the edges that the step emits stand in `own`, and are compared as words. Assumes nothing.
use mathlib.Core.Path.{ap}
use native.Mathlib.Omega.{arith}
use Rattle.runs.proofs.Laws.{runs_as, runs_to}
use Rattle.paths.proofs.Most.{emitted_most}
use Rattle.outline.specs.Outlines.{entry_of}
use Rattle.outline.proofs.OwnNumbers.{own_room, own_small, own_count, own_inside, own_words}
use Rattle.comparing.proofs.compare.Comparing.step.Goals as goal

pub step-walked-requires : goal.step-walked-requires
step-walked-requires c = record { unit_long = (c.requires.unit_long, c.requires.around.0, c.requires.around.1); room = own_room (emitted_most c.args.t c.args.self.walk c.args.v) }

pub overflow_cast-n : goal.overflow_cast-n
overflow_cast-n c = omega (arith, own_small (emitted_most c.args.t c.args.self.walk c.args.v) c.step-walked.ensures.made)

pub same_numbers-bodies-requires : goal.same_numbers-bodies-requires
same_numbers-bodies-requires c = record { n_in_bounds = own_inside (emitted_most c.args.t c.args.self.walk c.args.v) c.step-walked.ensures.made (c.requires.step_room.step c.args.self.walk c.args.v); n_bound = omega (arith, own_small (emitted_most c.args.t c.args.self.walk c.args.v) c.step-walked.ensures.made, c.requires.no_wrap.1) }

pub overflow_add-entry : goal.overflow_add-entry
overflow_add-entry c = omega (arith, c.requires.no_wrap.0, c.entry_bytes.ensures)

pub overflow_mul-at : goal.overflow_mul-at
overflow_mul-at c = omega (arith, own_small (emitted_most c.args.t c.args.self.walk c.args.v) c.step-walked.ensures.made)

pub overflow_add-at : goal.overflow_add-at
overflow_add-at c = omega (arith, own_small (emitted_most c.args.t c.args.self.walk c.args.v) c.step-walked.ensures.made, c.requires.no_wrap.1)

pub returns : goal.returns
returns c =
    let m = emitted_most c.args.t c.args.self.walk c.args.v in
    let p = c.step-walked.ensures in
    record {
      walk = p.walk;
      table = runs_as (ap (entry_of c.args.edition c.args.v c.args.post) (own_count m p.made)) (runs_to (omega (arith, c.entry_bytes.ensures)) c.same_entry-table.ensures);
      bodies = runs_as (own_words m p.made (c.requires.step_room.step c.args.self.walk c.args.v)) c.same_numbers-bodies.ensures;
    }
