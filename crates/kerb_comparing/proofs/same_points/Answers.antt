-- `kerb_comparing::same_points` meets its contract: what is left of the points is compared on, point by point. Assumes nothing.
use native.Mathlib.Omega.{arith}
use Rattle.runs.proofs.Laws.{runs_none, runs_to}
use Rattle.runs.proofs.Onward.{onward_step, onward_as, onward_done}
use Rattle.kerb_paths.specs.Points.{kerb_path}
use Rattle.paths.proofs.PathWalk.{inside_at}
use Rattle.words.proofs.OneWord.{word_room}
use Rattle.outline.proofs.Parts.{coordinate_fits, point_run}
use Rattle.kerb_outline.proofs.PieceRoom.{points_next, points_end}
use Rattle.kerb_comparing.proofs.same_points.Goals as goal

pub wide_bits-requires : goal.wide_bits-requires
wide_bits-requires c = coordinate_fits (inside_at (kerb_path c.args.y.radius c.args.points.now) c.loop-k.k c.requires.2 (omega (arith, c.requires.0, c.loop-k-test.true)) c.point-v.ensures).x

pub same_word-a-requires : goal.same_word-a-requires
same_word-a-requires c = word_room _ (omega (arith, c.requires.1, c.loop-k-test.true))

pub wide_bits-requires-in-loop-k : goal.wide_bits-requires-in-loop-k
wide_bits-requires-in-loop-k c = coordinate_fits (inside_at (kerb_path c.args.y.radius c.args.points.now) c.loop-k.k c.requires.2 (omega (arith, c.requires.0, c.loop-k-test.true)) c.point-v.ensures).y

pub same_word-ok-requires : goal.same_word-ok-requires
same_word-ok-requires c = word_room _ (omega (arith, c.requires.1, c.loop-k-test.true))

pub loop-k-preserved : goal.loop-k-preserved
loop-k-preserved c = (omega (arith, c.loop-k-test.true), onward_step (onward_as (points_next (kerb_path c.args.y.radius c.args.points.now) c.loop-k.k (omega (arith, c.requires.0, c.loop-k-test.true)) c.point-v.ensures) c.loop-k.invariant.1) (runs_to (omega arith) (point_run _ (inside_at (kerb_path c.args.y.radius c.args.points.now) c.loop-k.k c.requires.2 (omega (arith, c.requires.0, c.loop-k-test.true)) c.point-v.ensures) c.wide_bits.ensures c.wide_bits-in-loop-k.ensures c.same_word-a.ensures c.same_word-ok.ensures)))

pub returns : goal.returns
returns c = onward_done (onward_as (points_end (kerb_path c.args.y.radius c.args.points.now) c.loop-k.k (omega (arith, c.requires.0, c.loop-k-test.false))) c.loop-k.invariant.1) (runs_to (omega (arith, c.loop-k-test.false, c.loop-k.invariant.0)) runs_none)
