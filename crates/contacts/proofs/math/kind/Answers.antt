-- `contacts::math::kind` meets its contract: delta² and the larger radius are tested as the rule says. Assumes nothing.
use mathlib.Core.Path.{◌≡◌, ap, ◌∙◌}
use mathlib.Core.Bool.{false}
use native.Mathlib.Omega.{arith}
use lib.IntN.{nat_abs}
use Rattle.plane.specs.Vectors.{square_of}
use Rattle.contacts.specs.Contacts.{line_of, delta_of, broken_of}
use Rattle.contacts.proofs.Steps.{line_short, delta_size, delta_square, broken_is, not_broken_is, kind_broken, kind_drawn, kind_thin}
use Rattle.contacts.proofs.math.kind.Goals.{After-square, Else-square-d}
use Rattle.contacts.proofs.math.kind.Goals as goal

pub square-requires : goal.square-requires
square-requires c = line_short _ _ c.line.ensures c.requires.0 c.requires.1

length : (c : After-square) → c.unsigned_abs-d.result ≡ nat_abs (delta_of c.args.a c.args.b)
length c = delta_size c.requires.0 c.requires.1 c.delta.ensures c.unsigned_abs-d.ensures.value

square : (c : After-square) → c.square.result ≡ square_of (line_of c.args.a c.args.b)
square c = c.square.ensures ∙ ap square_of c.line.ensures

pub overflow_mul-d : goal.overflow_mul-d
overflow_mul-d c = omega (arith, delta_square c.requires.0 c.requires.1 (length c))

pub returns-then-square-d : goal.returns-then-square-d
returns-then-square-d c = kind_broken _ _ (broken_is _ _ (length (goal.at.returns-then-square-d c).After-square) (square (goal.at.returns-then-square-d c).After-square) (omega (arith, c.if-square-d.true)))

whole : (c : Else-square-d) → broken_of c.args.a c.args.b ≡ false
whole c = not_broken_is _ _ (length c.before) (square c.before) (omega (arith, c.if-square-d.false))

pub returns-then-larger-ge2 : goal.returns-then-larger-ge2
returns-then-larger-ge2 c = kind_drawn _ _ (whole (goal.at.returns-then-larger-ge2 c).Else-square-d) c.larger.ensures (record { sfits = c.larger.type_inv }) c.if-larger-ge2.true

pub returns-else-larger-ge2 : goal.returns-else-larger-ge2
returns-else-larger-ge2 c = kind_thin _ _ (whole (goal.at.returns-else-larger-ge2 c).Else-square-d) c.larger.ensures (record { sfits = c.larger.type_inv }) c.if-larger-ge2.false
