-- `oldest::lent::pass` meets its contract: one law of proofs/Passing.antt for each row. Assumes nothing.
use Rattle.std.proofs.Common.{◌≡◌, ◌%◌, length, arith}
use Rattle.replies.specs.Refusals.{reply_of}
use Rattle.oldest.proofs.Walking.{threes_length, goes_again}
use Rattle.oldest.proofs.Passing.{not_triples, too_many, not_taken, no_room, done}
use Rattle.oldest.proofs.lent.pass.Goals as goal

pub returns-then-m-ne0 : goal.returns-then-m-ne0
returns-then-m-ne0 g c = (not_triples _ _ _ _ c.if-m-ne0.true)

pub returns-then-n-gt4096 : goal.returns-then-n-gt4096
returns-then-n-gt4096 g c = (too_many _ _ _ _ (omega (arith, c.if-m-ne0.false)) c.if-n-gt4096.true)

pub returns-in-Err : goal.returns-in-Err
returns-in-Err g c =
    let thirds : length c.args.numbers.now % 3 ≡ 0 = omega (arith, c.if-m-ne0.false) in
    (not_taken _ _ _ _ thirds c.if-n-gt4096.false c.in-Err.ensures.0 (omega (arith, c.in-Err.ensures.1, threes_length g.N.Lent.coordinate g.N.Lent.width c.args.numbers.now thirds)))

pub returns-then-out-m : goal.returns-then-out-m
returns-then-out-m g c =
    let thirds : length c.args.numbers.now % 3 ≡ 0 = omega (arith, c.if-m-ne0.false) in
    (no_room _ _ _ _ thirds c.if-n-gt4096.false c.in_default.ensures (omega (arith, threes_length g.N.Lent.coordinate g.N.Lent.width c.args.numbers.now thirds)) c.if-out-m.true)

pub returns : goal.returns
returns g c =
    let thirds : length c.args.numbers.now % 3 ≡ 0 = omega (arith, c.if-m-ne0.false) in
    (done thirds c.if-n-gt4096.false (goes_again c.in_default.ensures c.pass_all-2.result c.pass_all-2.ensures) (omega (arith, threes_length g.N.Lent.coordinate g.N.Lent.width c.args.numbers.now thirds)) c.if-out-m.false)
