-- Document 02, request 3: the row of the calls that take kind 0 alone.
use Rattle.std.specs.Prelude.{List, ℕ, eqb}
use Rattle.outline.specs.Layout.{kerb_kind}
use Rattle.outline.specs.Stores.{kind_in}
use Rattle.replies.specs.Replies.{Row}

-- 12, kind 1: the kind.
unfoldable pub other_kind_row : List ℕ → Row
other_kind_row s = (eqb (kind_in s) kerb_kind, (12, kind_in s))
