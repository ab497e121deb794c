-- `kerb_keeping::filling::KerbPlan::put_points` meets its contract: what is left of the points is put on, point by point. Assumes nothing.
use native.Mathlib.Omega.{arith}
use Rattle.runs.proofs.Laws.{runs_none}
use Rattle.runs.proofs.Onward.{onward_step, onward_as, onward_done}
use Rattle.runs.proofs.Written.{onward_length}
use Rattle.kerb_paths.specs.Points.{kerb_path}
use Rattle.paths.proofs.PathWalk.{inside_at}
use Rattle.words.proofs.OneWord.{word_room}
use Rattle.outline.proofs.Parts.{word_end, coordinate_fits, point_run}
use Rattle.kerb_outline.proofs.PieceRoom.{points_next, points_end}
use Rattle.kerb_keeping.proofs.filling.KerbPlan.put_points.Goals as goal

pub wide_bits-requires : goal.wide_bits-requires
wide_bits-requires c = coordinate_fits (inside_at (kerb_path c.args.self.now.style.radius c.args.self.now.points.now) c.loop-k.k c.args.self.now.within.inside (omega (arith, c.args.self.now.counted)) c.point-v.ensures).x

pub put_word-a-requires : goal.put_word-a-requires
put_word-a-requires c = word_room _ (omega (arith, c.args.self.now.within.count, c.loop-k.invariant.0))

pub wide_bits-requires-in-loop-k : goal.wide_bits-requires-in-loop-k
wide_bits-requires-in-loop-k c = coordinate_fits (inside_at (kerb_path c.args.self.now.style.radius c.args.self.now.points.now) c.loop-k.k c.args.self.now.within.inside (omega (arith, c.args.self.now.counted)) c.point-v.ensures).y

pub put_word-at-requires : goal.put_word-at-requires
put_word-at-requires c = word_room _ (omega (arith, c.args.self.now.within.count, c.loop-k.invariant.0, word_end c.put_word-a.ensures))

pub loop-k-preserved : goal.loop-k-preserved
loop-k-preserved c = (omega (arith, c.loop-k.invariant.0, word_end c.put_word-a.ensures, word_end c.put_word-at.ensures), onward_step (onward_as (points_next (kerb_path c.args.self.now.style.radius c.args.self.now.points.now) c.loop-k.k (omega (arith, c.args.self.now.counted)) c.point-v.ensures) c.loop-k.invariant.1) (point_run _ (inside_at (kerb_path c.args.self.now.style.radius c.args.self.now.points.now) c.loop-k.k c.args.self.now.within.inside (omega (arith, c.args.self.now.counted)) c.point-v.ensures) c.wide_bits.ensures c.wide_bits-in-loop-k.ensures c.put_word-a.ensures c.put_word-at.ensures))

pub shape_of-s : goal.shape_of-s
shape_of-s c = onward_length c.loop-k.invariant.1

pub returns : goal.returns
returns c = onward_done (onward_as (points_end (kerb_path c.args.self.now.style.radius c.args.self.now.points.now) c.loop-k.k (omega (arith, c.args.self.now.counted))) c.loop-k.invariant.1) runs_none
