-- `number::root::times_root_up_at_most` meets its contract: a quotient's square decides. Assumes nothing.
use Rattle.std.proofs.Common.{◌<◌, ◌∙◌, sym, le-leb, rules}
use Rattle.number.proofs.Roots.{up_holds, up_tells, up_large}
use Rattle.number.proofs.root.times_root_up_at_most.Goals.{Else-r-eq0}
use Rattle.number.proofs.root.times_root_up_at_most.Goals as goal

some : (c : Else-r-eq0) → 0 < c.args.r
some c = search rules

pub returns-then-q-ge2147483648 : goal.returns-then-q-ge2147483648
returns-then-q-ge2147483648 c = le-leb _ _ c.if-q-ge2147483648.true ∙ sym (up_holds _ _ _ (some c.before) (up_large _ _ c.requires c.if-q-ge2147483648.true))

pub returns-else-q-ge2147483648 : goal.returns-else-q-ge2147483648
returns-else-q-ge2147483648 c = up_tells _ _ _ (some c.before)
