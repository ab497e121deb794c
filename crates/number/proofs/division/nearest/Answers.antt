-- `number::division::nearest` meets its contract: each need follows from the law `led` of the parts. Assumes nothing.
use Rattle.std.proofs.Common.{◌≡◌, ℕ, ◌*◌, ◌^◌, ◌<◌, ◌≤◌, ◌⊎◌, ap, inl, inr, arith, pow_pos}
use Rattle.number.proofs.Leading.{Led, led, up, same, up_exact, same_exact}
use Rattle.number.proofs.division.nearest.Goals.{After-split-d, After-struct_known-5-1}
use Rattle.number.proofs.division.nearest.Goals as goal

one_or : (t den : ℕ) → (t ≡ 0) ⊎ (2 ^ 33 * 2 ^ t ≤ den) → (2 ^ t ≡ 1) ⊎ (2 ^ 33 * 2 ^ t ≤ den)
one_or t den (inl e) = inl (ap (λ (n : ℕ). 2 ^ n) e)
one_or t den (inr h) = inr h

-- what is known once both are split
abbrev Known : After-split-d → Type 0
Known c =
    let s = c.args in
    let n = c.split-n.result in
    let d = c.split-d.result in
    Led s.r s.num s.den (2 ^ c.spare-t.result) n.top n.low d.top d.low

known : (c : After-split-d) → Known c
known c =
    let s = c.before.before.before in
    let spared = c.spare-t.ensures in
    let n = c.split-n.ensures in
    let d = c.split-d.ensures in
    led _ _ _ _ _ _ _ _ s.requires.0 s.requires.1 s.requires.2 d.0 d.1 n.0 n.1 spared.few (one_or _ _ spared.many)

-- what is known at the end
abbrev Last : Type 0
Last = After-struct_known-5-1

end : (c : Last) → Known c.before.before.before.before.before.before
end c = known c.before.before.before.before.before.before

bound : (c : Last) → c.args.den < 2 ^ 62
bound c = c.requires.3

some : (c : Last) → 0 < c.args.den
some c = c.requires.2

pub overflow_add-a : goal.overflow_add-a
overflow_add-a c =
    let a = c.before.before.before.before.before in
    omega (arith, c.lift.ensures, (known a).left, (known a).rest, a.requires.3)

pub overflow_mul-b : goal.overflow_mul-b
overflow_mul-b c = omega (arith, (end c).right, bound c)

pub overflow_mul-b-2 : goal.overflow_mul-b-2
overflow_mul-b-2 c = omega (arith, (end c).right, bound c)

pub overflow_add-den : goal.overflow_add-den
overflow_add-den c = omega (arith, (end c).right, bound c)

pub overflow_mul-a-2 : goal.overflow_mul-a-2
overflow_mul-a-2 c = omega (arith, c.lift.ensures, (end c).left, (end c).rest, bound c)

pub returns-then-den-b : goal.returns-then-den-b
returns-then-den-b c =
    let l = c.lift.ensures in
    let h = rw l at c.if-den-b.true in
    (up _ _ _ _ _ _ _ _ (end c.before) (pow_pos _) h, omega (arith, (end c.before).quo), rw l (up_exact _ _ _ _ _ _ _ _ (end c.before) (some c.before) h))

pub returns-else-den-b : goal.returns-else-den-b
returns-else-den-b c =
    let l = c.lift.ensures in
    let h = rw l at c.if-den-b.false in
    (same _ _ _ _ _ _ _ _ (end c.before) (pow_pos _) h, omega (arith, (end c.before).quo), rw l (same_exact _ _ _ _ _ _ _ _ (end c.before) (some c.before) h))
