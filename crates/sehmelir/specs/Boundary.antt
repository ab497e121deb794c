-- The calls as numbers: the promise of each call, through the definition that gives its answers their numbers.
use Rattle.std.specs.Prelude.{◌≡◌, List, ℕ, Float, ℤ, pos, length}
use Rattle.std.proofs.Math.Option.{none, some}
use Rattle.contacts.specs.declared.Vertex.{Vertex}
use Rattle.words.specs.Words.{word_of}
use Rattle.outline.specs.Layout.{kind_word}
use Rattle.outline.specs.Outlines.{join_word, closed_word}
use Rattle.outline.specs.declared.Form.{Form}
use Rattle.outline.specs.declared.Form.TheVariants.{Stroke, Kerb}
use Rattle.replies.specs.Replies.{Reply as Answer}
use Rattle.drawing.specs.Drawing.{draw_reply, draw_out}
use Rattle.kerb_drawing.specs.KerbDrawing.{draw_kerb_reply, draw_kerb_out}
use Rattle.keeping.specs.Keeping.{keep_reply, keep_out}
use Rattle.kerb_keeping.specs.KerbKeeping.{keep_kerb_reply, keep_kerb_out}
use Rattle.reading.specs.Reading.{read_reply, read_grade, read_form, read_out}
use Rattle.reading.specs.PostsReading.{posts_reply, posts_out}
use Rattle.editing.specs.Replacing.{replace_reply, replace_out}
use Rattle.reaching.specs.Replies.{reach_reply}
use Rattle.oldest.specs.Taken.{Taken as Answered, whole_in, reason_of}
use Rattle.oldest.specs.Calls.{import_reply, import_out, export_reply, export_out}
use Rattle.sehmelir.specs.declared.Reply.{Reply}
use Rattle.sehmelir.specs.declared.Path.{Path}
use Rattle.sehmelir.specs.declared.FormNumbers.{FormNumbers}
use Rattle.sehmelir.specs.declared.Taken.{Taken}

-- document 01's reply and number, and a grade beside them
pub record Replies (r : Reply) (told : Answer) (g : ℕ) : Type 0 where
  pub reply : r.reply ≡ told.0
  pub number : r.number ≡ told.1
  pub grade : r.grade ≡ g

-- draw: reply, number and every lent number afterwards
pub record DrawReplies (path : List ℤ) (grade : ℕ) (out₀ : List ℤ) (r : Reply) (out₁ : List ℤ) : Type 0 where
  pub replies : Replies r (draw_reply path grade (length out₀)) 0
  pub out : out₁ ≡ draw_out path grade out₀

-- Document 02, request 3, drawing a kerb: reply, number and every lent number afterwards
pub record DrawKerbReplies (points : List ℤ) (grade radius join closed : ℕ) (out₀ : List ℤ) (r : Reply) (out₁ : List ℤ) : Type 0 where
  pub replies : Replies r (draw_kerb_reply points grade radius join closed (length out₀)) 0
  pub out : out₁ ≡ draw_kerb_out points grade radius join closed out₀

-- keep: reply, number and every lent byte afterwards
pub record KeepReplies (path : List ℤ) (posts : List ℕ) (grade : ℕ) (out₀ : List ℕ) (r : Reply) (out₁ : List ℕ) : Type 0 where
  pub replies : Replies r (keep_reply path posts grade (length out₀)) 0
  pub out : out₁ ≡ keep_out path posts grade out₀

-- Document 02, request 3, keeping a kerb: reply, number and every lent byte afterwards
pub record KeepKerbReplies (points : List ℤ) (grade radius join closed : ℕ) (out₀ : List ℕ) (r : Reply) (out₁ : List ℕ) : Type 0 where
  pub replies : Replies r (keep_kerb_reply points grade radius join closed (length out₀)) 0
  pub out : out₁ ≡ keep_kerb_out points grade radius join closed out₀

-- Document 02, request 3: a form in numbers, the kind and a kerb's radius, join and closed
unfoldable pub radius_told : Form → ℕ
radius_told (Stroke e) = 0
radius_told (Kerb y) = word_of y.radius

unfoldable pub join_told : Form → ℕ
join_told (Stroke e) = 0
join_told (Kerb y) = join_word y.join

unfoldable pub closed_told : Form → ℕ
closed_told (Stroke e) = 0
closed_told (Kerb y) = closed_word y.closed

pub record FormTold (r : FormNumbers) (f : Form) : Type 0 where
  pub kind : r.kind ≡ kind_word f
  pub radius : r.radius ≡ radius_told f
  pub join : r.join ≡ join_told f
  pub closed : r.closed ≡ closed_told f

-- a reply and its number, a grade and a form beside them
pub record PathReplies (r : Path) (told : Answer) (g : ℕ) (f : Form) : Type 0 where
  pub reply : r.reply ≡ told.0
  pub number : r.number ≡ told.1
  pub grade : r.grade ≡ g
  pub kind : r.kind ≡ kind_word f
  pub radius : r.radius ≡ radius_told f
  pub join : r.join ≡ join_told f
  pub closed : r.closed ≡ closed_told f

-- read: reply, number, grade, form and every lent number afterwards
pub record ReadReplies (store : List ℕ) (out₀ : List ℤ) (r : Path) (out₁ : List ℤ) : Type 0 where
  pub replies : PathReplies r (read_reply store (length out₀)) (read_grade store (length out₀)) (read_form store (length out₀))
  pub out : out₁ ≡ read_out store out₀

-- Document 02, request 11, reading the point numbers: reply, number and every lent number afterwards
pub record NumbersReplies (store : List ℕ) (out₀ : List ℕ) (r : Reply) (out₁ : List ℕ) : Type 0 where
  pub replies : Replies r (posts_reply store (length out₀)) 0
  pub out : out₁ ≡ posts_out store out₀

-- replace: reply, number and every byte of the store afterwards
pub record ReplaceReplies (store₀ : List ℕ) (index : ℕ) (v : Vertex) (r : Reply) (store₁ : List ℕ) : Type 0 where
  pub replies : Replies r (replace_reply store₀ index v) 0
  pub store : store₁ ≡ replace_out store₀ index v

-- reach: reply and number; the store is only read
pub record ReachReplies (store : List ℕ) (index : ℕ) (r : Reply) : Type 0 where
  pub replies : Replies r (reach_reply store index) 0

-- Document 02, request 5: what a float is taken for, its reason's number and the whole number, 0 when refused
unfoldable pub whole_or0 : Answered → ℤ
whole_or0 t = elim (whole_in t) [ some n ↦ n | none ↦ pos 0 ]

pub record Tells (p : Taken) (t : Answered) : Type 0 where
  pub reason : p.reason ≡ reason_of t
  pub whole : p.whole ≡ whole_or0 t

-- import: reply, number and every lent number afterwards
pub record ImportReplies (floats : List Float) (out₀ : List ℤ) (r : Reply) (out₁ : List ℤ) : Type 0 where
  pub replies : Replies r (import_reply floats (length out₀)) 0
  pub out : out₁ ≡ import_out floats out₀

-- export: reply, number and every lent float afterwards
pub record ExportReplies (path : List ℤ) (out₀ : List Float) (r : Reply) (out₁ : List Float) : Type 0 where
  pub replies : Replies r (export_reply path (length out₀)) 0
  pub out : out₁ ≡ export_out path out₀

-- Document 01, "Promises and hollow programs": two outcomes that a call's promise allows coincide.
abbrev pub OneDrawReply : Type 0
OneDrawReply = (path : List ℤ) (g : ℕ) (out : List ℤ) (r q : Reply) (o p : List ℤ) → DrawReplies path g out r o → DrawReplies path g out q p → (r ≡ q) × (o ≡ p)

abbrev pub OneDrawKerbReply : Type 0
OneDrawKerbReply = (points : List ℤ) (g r j c : ℕ) (out : List ℤ) (a b : Reply) (o p : List ℤ) → DrawKerbReplies points g r j c out a o → DrawKerbReplies points g r j c out b p → (a ≡ b) × (o ≡ p)

abbrev pub OneKeepReply : Type 0
OneKeepReply = (path : List ℤ) (ps : List ℕ) (g : ℕ) (out : List ℕ) (r q : Reply) (o p : List ℕ) → KeepReplies path ps g out r o → KeepReplies path ps g out q p → (r ≡ q) × (o ≡ p)

abbrev pub OneKeepKerbReply : Type 0
OneKeepKerbReply = (points : List ℤ) (g r j c : ℕ) (out : List ℕ) (a b : Reply) (o p : List ℕ) → KeepKerbReplies points g r j c out a o → KeepKerbReplies points g r j c out b p → (a ≡ b) × (o ≡ p)

abbrev pub OneReadReply : Type 0
OneReadReply = (s : List ℕ) (out : List ℤ) (r q : Path) (o p : List ℤ) → ReadReplies s out r o → ReadReplies s out q p → (r ≡ q) × (o ≡ p)

abbrev pub OneNumbersReply : Type 0
OneNumbersReply = (s out : List ℕ) (r q : Reply) (o p : List ℕ) → NumbersReplies s out r o → NumbersReplies s out q p → (r ≡ q) × (o ≡ p)

abbrev pub OneReplaceReply : Type 0
OneReplaceReply = (s : List ℕ) (k : ℕ) (v : Vertex) (r q : Reply) (o p : List ℕ) → ReplaceReplies s k v r o → ReplaceReplies s k v q p → (r ≡ q) × (o ≡ p)

abbrev pub OneReachReply : Type 0
OneReachReply = (s : List ℕ) (k : ℕ) (r q : Reply) → ReachReplies s k r → ReachReplies s k q → r ≡ q

abbrev pub OneTelling : Type 0
OneTelling = (t : Answered) (p q : Taken) → Tells p t → Tells q t → p ≡ q

abbrev pub OneImportReply : Type 0
OneImportReply = (floats : List Float) (out : List ℤ) (r q : Reply) (o p : List ℤ) → ImportReplies floats out r o → ImportReplies floats out q p → (r ≡ q) × (o ≡ p)

abbrev pub OneExportReply : Type 0
OneExportReply = (path : List ℤ) (out : List Float) (r q : Reply) (o p : List Float) → ExportReplies path out r o → ExportReplies path out q p → (r ≡ q) × (o ≡ p)
