-- Document 02, request 10: side by side, its answer and its promises.
use Rattle.std.specs.Prelude.{◌≡◌, true, false, ◌||◌, List, [], ◌∷◌, ◌++◌, ℕ, ◌+◌, ◌*◌, ◌≤◌, eqb, ltb, length, get_or, Result, Ok, Err}
use Rattle.words.specs.Words.{bytes_of}
use Rattle.outline.specs.Layout.{kerb_kind, edge_bytes, front_bytes}
use Rattle.outline.specs.Outlines.{body_words}
use Rattle.outline.specs.Stores.{edition_in, edition_of, count_in, bodies_in, edges_in, edges_before, body_bytes_in}
use Rattle.outline.specs.declared.Form.TheVariants.{Stroke}
use Rattle.replies.specs.Replies.{Reply, Row, first_row}
use Rattle.replies.specs.Refusals.{refusal_of}
use Rattle.replies.specs.declared.Refusal.{Refusal}
use Rattle.heading.specs.StoreRows.{store_rows}
use Rattle.checking.specs.OtherKind.{other_kind_row}
use Rattle.sides.specs.declared.Sheet.{Sheet}
use Rattle.sides.specs.declared.Sheet.TheVariants.{Before, After}
use Rattle.sides.specs.declared.Located.{Located}

-- A choice of sheet.
unfoldable pub chosen : Sheet → List ℕ → List ℕ → List ℕ
chosen Before before after = before
chosen After before after = after

-- Where body i of a sheet begins: past header and table, and past the bodies before it.
unfoldable pub body_at : List ℕ → ℕ → ℕ
body_at s i = front_bytes (Stroke (edition_of (edition_in s))) (count_in s) + edge_bytes * edges_before s i

-- 12, either sheet of kind 1: the kind.
unfoldable pub either_kind_row : List ℕ → List ℕ → Row
either_kind_row before after = ((other_kind_row before).0 || (other_kind_row after).0, (12, kerb_kind))

-- 9, above n, which is the closing body's: the vertex number.
unfoldable pub body_row : List ℕ → ℕ → Row
body_row s i = (ltb (count_in s) i, (9, i))

-- the rows past the sheets' own: 12 of either, 9 of the chosen
unfoldable pub side_rows : List ℕ → List ℕ → Sheet → ℕ → List Row
side_rows before after sheet i = either_kind_row before after ∷ body_row (chosen sheet before after) i ∷ []

-- The rows of the earlier sheet, those of the later, 12, 9; else 0 with the body's edges.
unfoldable pub side_reply : List ℕ → List ℕ → Sheet → ℕ → Reply
side_reply before after sheet i = first_row (store_rows before ++ (store_rows after ++ side_rows before after sheet i)) (0, edges_in (chosen sheet before after) i)

-- what goes with the reply 0, or what goes with a refusal
unfoldable pub when_done {ℓ} : {A : Type ℓ} → Reply → A → A → A
when_done r made none = elim (eqb r.0 0) [ true ↦ made | false ↦ none ]

-- The body handed back as a part of the chosen sheet. A refusal gives an empty part.
unfoldable pub side_part : List ℕ → List ℕ → Sheet → ℕ → List ℕ
side_part before after sheet i = when_done (side_reply before after sheet i) (body_bytes_in (chosen sheet before after) i) []

-- where the part begins in that sheet, 0 when refused
unfoldable pub side_offset : List ℕ → List ℕ → Sheet → ℕ → ℕ
side_offset before after sheet i = when_done (side_reply before after sheet i) (body_at (chosen sheet before after) i) 0

-- and how many bytes it has, 0 when refused
unfoldable pub side_length : List ℕ → List ℕ → Sheet → ℕ → ℕ
side_length before after sheet i = when_done (side_reply before after sheet i) (edge_bytes * edges_in (chosen sheet before after) i) 0

-- ---- the answer, and the promises

unfoldable pub reply_of_located : Result Located Refusal → Reply
reply_of_located (Ok body) = (0, body.edges)
reply_of_located (Err r) = refusal_of r

unfoldable pub offset_of_located : Result Located Refusal → ℕ
offset_of_located (Ok body) = body.offset
offset_of_located (Err r) = 0

unfoldable pub length_of_located : Result Located Refusal → ℕ
length_of_located (Ok body) = edge_bytes * body.edges
length_of_located (Err r) = 0

-- locate: the reply, and the part's place, which is inside the chosen sheet; the sheets are only read
pub record Locates (before after : List ℕ) (sheet : Sheet) (i : ℕ) (answer : Result Located Refusal) : Type 0 where
  pub reply : reply_of_located answer ≡ side_reply before after sheet i
  pub offset : offset_of_located answer ≡ side_offset before after sheet i
  pub size : length_of_located answer ≡ side_length before after sheet i
  pub inside : offset_of_located answer + length_of_located answer ≤ length (chosen sheet before after)

-- beside: the reply, and the part itself
pub record HandsBack (before after : List ℕ) (sheet : Sheet) (i : ℕ) (reply number : ℕ) (given : List ℕ) : Type 0 where
  pub told : (reply, number) ≡ side_reply before after sheet i
  pub part : given ≡ side_part before after sheet i

-- Each call has one outcome: two that its promise allows coincide.
abbrev pub OneSide : Type 0
OneSide = (before after : List ℕ) (sheet : Sheet) (i : ℕ) (r q : Result Located Refusal) → Locates before after sheet i r → Locates before after sheet i q → r ≡ q

abbrev pub OnePart : Type 0
OnePart = (before after : List ℕ) (sheet : Sheet) (i a b n m : ℕ) (p q : List ℕ) → HandsBack before after sheet i a n p → HandsBack before after sheet i b m q
    → (a ≡ b) × (n ≡ m) × (p ≡ q)

-- After the reply 0 the part holds the body that the rules give the chosen sheet's path, and the number counts its edges.
abbrev pub PartIsBody : Type 0
PartIsBody = (before after : List ℕ) (sheet : Sheet) (i : ℕ) → (side_reply before after sheet i).0 ≡ 0
    → (side_part before after sheet i ≡ bytes_of (body_words (get_or (bodies_in (chosen sheet before after)) i [])))
    × ((side_reply before after sheet i).1 ≡ length (get_or (bodies_in (chosen sheet before after)) i []))

-- ---- of a sheet that passed its rows

-- a sheet of n vertices whose table marks off its bodies inside it
pub record BodiesInside (s : List ℕ) (n : ℕ) : Type 0 where
  pub vertices : n ≡ count_in s
  pub inside : (i : ℕ) → i ≤ n → body_at s i + edge_bytes * edges_in s i ≤ length s

-- body i of such a sheet: its own row, else 0 with the body's edges
unfoldable pub body_reply : List ℕ → ℕ → Reply
body_reply s i = first_row (body_row s i ∷ []) (0, edges_in s i)

pub record LocatesIn (s : List ℕ) (i : ℕ) (answer : Result Located Refusal) : Type 0 where
  pub reply : reply_of_located answer ≡ body_reply s i
  pub offset : offset_of_located answer ≡ when_done (body_reply s i) (body_at s i) 0
  pub size : length_of_located answer ≡ when_done (body_reply s i) (edge_bytes * edges_in s i) 0
  pub inside : offset_of_located answer + length_of_located answer ≤ length s
