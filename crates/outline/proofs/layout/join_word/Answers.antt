-- `outline::layout::join_word` meets its contract: a join's place among the joins is its word. Assumes nothing.
use mathlib.Core.Path.{◌≡◌, refl}
use denote.Enum.Declared.{tag_of}
use Rattle.kerb.specs.contracts.Join.{the_type}
use Rattle.kerb.specs.declared.Join.{Join}
use Rattle.kerb.specs.declared.Join.TheVariants.{Bevel, Round}
use Rattle.outline.specs.Outlines.{join_word}
use Rattle.outline.proofs.layout.join_word.Goals as goal

join_tag : (join : Join) → tag_of the_type join ≡ join_word join
unfolding join_word
join_tag Bevel = refl
join_tag Round = refl

pub returns : goal.returns
returns c = join_tag c.args.join
