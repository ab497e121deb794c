-- The documents' number and value for each refusal: the one list. 1 to 9 are document 01's, 10 to 19 document 02's.
use Rattle.std.specs.Prelude.{◌≡◌, ℕ, Result, Ok, Err}
use Rattle.replies.specs.Replies.{Reply}
use Rattle.replies.specs.declared.Code.{Code}
use Rattle.replies.specs.declared.Refusal.{Refusal}
use Rattle.replies.specs.declared.Refusal.TheVariants.{Uneven, TooMany, Grade, Outside, NoRoom, NotOutline, Kind, NotSound, NoVertex, NoEdge, StyleWord, OtherKind, NotTaken, Damaged, KeyThere, KeyMissing, TableFull, WithoutEdges, NoListRoom}

abbrev pub refusal_of : Refusal → Reply
refusal_of (Uneven n) = (1, n)
refusal_of (TooMany n) = (2, n)
refusal_of (Grade g) = (3, g)
refusal_of (Outside i) = (4, i)
refusal_of (NoRoom n) = (5, n)
refusal_of NotOutline = (6, 0)
refusal_of (Kind k) = (7, k)
refusal_of (NotSound i) = (8, i)
refusal_of (NoVertex i) = (9, i)
refusal_of (NoEdge i) = (10, i)
refusal_of (StyleWord i) = (11, i)
refusal_of (OtherKind k) = (12, k)
refusal_of (NotTaken i) = (13, i)
refusal_of Damaged = (14, 0)
refusal_of (KeyThere k) = (15, k)
refusal_of (KeyMissing k) = (16, k)
refusal_of (TableFull n) = (17, n)
refusal_of (WithoutEdges n) = (18, n)
refusal_of (NoListRoom n) = (19, n)

-- an answer as a reply: 0 with its number, or the refusal's
abbrev pub reply_of : Result ℕ Refusal → Reply
reply_of (Ok n) = (0, n)
reply_of (Err r) = refusal_of r

-- a reply's number and the number with it, as the code has them
pub record Codes (c : Code) (told : Reply) : Type 0 where
  pub reply : c.reply ≡ told.0
  pub number : c.number ≡ told.1
