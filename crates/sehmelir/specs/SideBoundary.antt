-- Document 02, request 10: side by side as numbers.
use Rattle.std.specs.Prelude.{◌≡◌, Bool, true, false, List, ℕ}
use Rattle.replies.specs.Replies.{Reply as Answer}
use Rattle.sides.specs.Sides.{side_reply, side_offset, side_length}
use Rattle.sides.specs.declared.Sheet.{Sheet}
use Rattle.sides.specs.declared.Sheet.TheVariants.{Before, After}
use Rattle.sehmelir.specs.declared.chunk_calls.Part.{Part}

-- the sheet of a choice: the later one, or the earlier
unfoldable pub sheet_of : Bool → Sheet
sheet_of true = After
sheet_of false = Before

-- a reply and number, and where a part begins and how many bytes it has
pub record PlaceReplies (p : Part) (told : Answer) (at size : ℕ) : Type 0 where
  pub reply : p.reply ≡ told.0
  pub zero : p.zero ≡ 0
  pub number : p.number ≡ told.1
  pub offset : p.offset ≡ at
  pub length : p.length ≡ size

-- side: reply, number, offset and length; the sheets are only read
pub record SideReplies (before after : List ℕ) (later : Bool) (i : ℕ) (p : Part) : Type 0 where
  pub replies : PlaceReplies p (side_reply before after (sheet_of later) i) (side_offset before after (sheet_of later) i) (side_length before after (sheet_of later) i)

-- Document 01, "Promises and hollow programs": two outcomes that a call's promise allows coincide.
abbrev pub OneSideReply : Type 0
OneSideReply = (before after : List ℕ) (later : Bool) (i : ℕ) (p q : Part) → SideReplies before after later i p → SideReplies before after later i q → p ≡ q
