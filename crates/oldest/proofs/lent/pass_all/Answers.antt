-- `oldest::lent::pass_all` meets its contract: vertex after vertex. Assumes nothing.
use Rattle.std.specs.Prelude.{Err}
use Rattle.std.proofs.Common.{◌≡◌, refl, arith, rules}
use Rattle.std.proofs.lemmas.Grind.{common_steps}
use Rattle.oldest.proofs.Walking.{threes_length, ahead_next, ahead_stop, ahead_done}
use Rattle.oldest.proofs.Vertices.{walks_to}
use Rattle.oldest.proofs.lent.pass_all.Goals as goal

pub returns-in_err-vertex : goal.returns-in_err-vertex
returns-in_err-vertex g c =
    let e : c.from_residual.result ≡ Err c.in_err-vertex.field-0.0 = grind (arith, common_steps) in
    let w = c.in_err-vertex.ensures in
    rw e (ahead_stop c.loop-k.invariant.1 (omega arith) w.0 w.1 c.requires.0)

pub loop-k-preserved : goal.loop-k-preserved
loop-k-preserved g c = (search rules, ahead_next c.loop-k.invariant.1 (omega arith) c.in_ok-vertex.ensures refl _ (omega arith))

pub returns : goal.returns
returns g c = walks_to (omega (arith, c.loop-k.invariant.1.within, threes_length g.N.Lent.coordinate g.N.Lent.width c.args.numbers.now c.requires.0)) (ahead_done c.loop-k.invariant.1 (omega (arith, c.requires.0)))
