-- `calls::numbers` meets its contract: the own numbers are as many as the store asks for. Assumes nothing.
use mathlib.Core.Path.{sym, ◌∙◌}
use borrow.Author.Rules.{rules}
use Rattle.checking.proofs.StoreRooms.{few_path, few_own, many_path, many_own}
use Rattle.calls.proofs.numbers.Goals as goal

pub posts_with-requires : goal.posts_with-requires
posts_with-requires c =
    let s = c.args.store.now in
    let e = sym c.is_small.ensures ∙ c.if-is_small.true in
    (few_path s e (search rules), few_own s e (search rules))

pub posts_with-requires-2 : goal.posts_with-requires-2
posts_with-requires-2 c = let s = c.args.store.now in (many_path s (search rules), many_own s (search rules))
