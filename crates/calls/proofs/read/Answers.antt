-- `calls::read` meets its contract: the own numbers are as many as the store asks for. Assumes nothing.
use mathlib.Core.Path.{sym, ◌∙◌}
use borrow.Author.Rules.{rules}
use Rattle.checking.proofs.StoreRooms.{few_path, few_own, many_path, many_own}
use Rattle.calls.proofs.read.Goals as goal

pub read_with-requires : goal.read_with-requires
read_with-requires c =
    let s = c.args.store.now in
    let e = sym c.is_small.ensures ∙ c.if-is_small.true in
    (few_path s e (search rules), few_own s e (search rules))

pub read_with-requires-2 : goal.read_with-requires-2
read_with-requires-2 c = let s = c.args.store.now in (many_path s (search rules), many_own s (search rules))
