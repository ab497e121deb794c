-- `chunk_table::damage::twice` meets its contract: what is left has a key twice, behind the last one, exactly if all have. Assumes nothing.
use mathlib.Core.Path.{refl, sym, ◌∙◌}
use Rattle.chunk_table.proofs.Checked.{behind_entry, twice_begun, twice_none, twice_here, twice_next, twice_last}
use Rattle.chunk_table.proofs.Standing.{rest_next, rest_none}
use Rattle.chunk_table.proofs.damage.twice.Goals as goal

pub returns-in_default : goal.returns-in_default
returns-in_default c = twice_none _ _ c.in_default.len_below

pub loop-i-init : goal.loop-i-init
loop-i-init c = record { entry = c.requires.entries 0 c.in-len1-up.len_at_least; left = twice_begun _ _ c.in-len1-up.len_at_least }

pub word-requires-in-loop-i : goal.word-requires-in-loop-i
word-requires-in-loop-i c = behind_entry _ c.requires _ c.loop-i-test.true

pub returns-then-word : goal.returns-then-word
returns-then-word c = twice_here _ _ c.loop-i.invariant.left (rest_next _ _ c.loop-i-test.true) (sym c.word.ensures.0 ∙ c.if-word.true ∙ c.word-in-loop-i.ensures.0)

pub loop-i-preserved : goal.loop-i-preserved
loop-i-preserved c = record {
  entry = behind_entry _ c.requires _ c.loop-i-test.true;
  left = twice_next _ _ c.loop-i.invariant.left (rest_next _ _ c.loop-i-test.true) refl (λ e. c.if-word.false (c.word.ensures.0 ∙ e ∙ sym c.word-in-loop-i.ensures.0));
}

pub returns : goal.returns
returns c = twice_last _ _ c.loop-i.invariant.left (rest_none _ _ c.loop-i-test.false)
