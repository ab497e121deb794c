-- `chunk_adding::add_outline` meets its contract: the store's first bytes, as many as its header says, are the outline's own. Assumes nothing.
use mathlib.Core.Path.{sym}
use native.Mathlib.Omega.{arith}
use lib.Seq.{length-take-le}
use Rattle.chunk_adding.proofs.Added.{own_long, adds_put}
use Rattle.chunk_adding.proofs.add_outline.Goals as goal

pub whole_length-end-requires : goal.whole_length-end-requires
whole_length-end-requires c = omega (arith, own_long c.requires.outline)

pub slice_bounds-put_outline-end : goal.slice_bounds-put_outline-end
slice_bounds-put_outline-end c = sym (length-take-le c.whole_length-end.result c.args.store.now (omega (arith, own_long c.requires.outline, c.whole_length-end.ensures)))

pub returns : goal.returns
returns c = adds_put _ _ _ c.requires.table c.requires.outline c.whole_length-end.ensures c.put_outline.ensures
