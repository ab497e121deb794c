-- `contacts::sections::covers_circle` meets its contract: the turn and the four sides are tested one after another. Assumes nothing.
use mathlib.Core.Path.{◌≡◌, refl}
use mathlib.Core.Bool.{◌&&◌}
use Rattle.contacts.specs.Covering.{turn_of, inside_of}
use mir.Syntax.{w64}
use mir.Val.{SFits}
use Rattle.contacts.proofs.Covers.{corners, turned, not_turned, and_side, not_side, covers_sides}
use Rattle.contacts.proofs.sections.covers_circle.Goals.{Joined-inside, Joined-inside-2, then-t-ne0, else-t-ne0, then-inside, else-inside, then-inside-2, else-inside-2}
use Rattle.contacts.proofs.sections.covers_circle.Goals as goal

pub inside-requires : goal.inside-requires
inside-requires c =
    let k = corners c.requires.0 in
    (c.requires.1, k.left_b, k.right_b)

pub inside-requires-then-inside : goal.inside-requires-then-inside
inside-requires-then-inside c =
    let k = corners c.requires.0 in
    (c.requires.1, k.left_a, k.left_b)

pub inside-requires-then-inside-2 : goal.inside-requires-then-inside-2
inside-requires-then-inside-2 c =
    let k = corners c.requires.0 in
    (c.requires.1, k.right_b, k.right_a)

pub inside-requires-then-inside-3 : goal.inside-requires-then-inside-3
inside-requires-then-inside-3 c =
    let k = corners c.requires.0 in
    (c.requires.1, k.right_a, k.left_a)

-- each side so far
second : (c : Joined-inside) → c.if-inside.value ≡ (c.if-t-ne0.value && inside_of (turn_of c.args.s) c.args.b c.args.s.left.a c.args.s.left.b)
second c =
    elim c.if-inside.branch [
      | then-inside w ↦ and_side _ _ c.turn-t.ensures (record { sfits = c.turn-t.type_inv }) _ _ _ w.if-inside.true w.value-is w.inside-then-inside.ensures
      | else-inside w ↦ not_side _ _ c.turn-t.ensures (record { sfits = c.turn-t.type_inv }) _ _ _ w.if-inside.false w.value-is
    ]

third : (c : Joined-inside-2) → c.if-inside-2.value ≡ (c.if-inside.value && inside_of (turn_of c.args.s) c.args.b c.args.s.right.b c.args.s.right.a)
third c =
    elim c.if-inside-2.branch [
      | then-inside-2 w ↦ and_side _ _ c.turn-t.ensures (record { sfits = c.turn-t.type_inv }) _ _ _ w.if-inside-2.true w.value-is w.inside-then-inside-2.ensures
      | else-inside-2 w ↦ not_side _ _ c.turn-t.ensures (record { sfits = c.turn-t.type_inv }) _ _ _ w.if-inside-2.false w.value-is
    ]

pub returns-then-inside-3 : goal.returns-then-inside-3
returns-then-inside-3 c =
    let p = goal.at.returns-then-inside-3 c in
    let f : SFits w64 c.turn-t.result = record { sfits = c.turn-t.type_inv } in
    covers_sides _ _ _ _ _
    (elim c.if-t-ne0.branch [ then-t-ne0 u ↦ turned _ _ c.turn-t.ensures f _ _ u.if-t-ne0.true u.value-is u.inside.ensures | else-t-ne0 u ↦ not_turned _ _ c.turn-t.ensures f _ _ u.if-t-ne0.false u.value-is ])
    (second p.Joined-inside) (third p.Joined-inside-2)
    (and_side _ _ c.turn-t.ensures (record { sfits = c.turn-t.type_inv }) _ _ _ c.if-inside-3.true refl c.inside-then-inside-3.ensures)

pub returns-else-inside-3 : goal.returns-else-inside-3
returns-else-inside-3 c =
    let p = goal.at.returns-else-inside-3 c in
    let f : SFits w64 c.turn-t.result = record { sfits = c.turn-t.type_inv } in
    covers_sides _ _ _ _ _
    (elim c.if-t-ne0.branch [ then-t-ne0 w ↦ turned _ _ c.turn-t.ensures f _ _ w.if-t-ne0.true w.value-is w.inside.ensures | else-t-ne0 w ↦ not_turned _ _ c.turn-t.ensures f _ _ w.if-t-ne0.false w.value-is ])
    (second p.Joined-inside) (third p.Joined-inside-2)
    (not_side _ _ c.turn-t.ensures (record { sfits = c.turn-t.type_inv }) _ _ _ c.if-inside-3.false refl)
