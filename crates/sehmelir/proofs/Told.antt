-- A reply from what the code has put into it. Assumes nothing.
use Rattle.std.specs.Prelude.{Result, Ok}
use mathlib.Core.Path.{◌≡◌, ap, ◌∙◌}
use mathlib.Core.List.{List}
use mathlib.Core.Option.{none}
use Prim.Native.Nat.{ℕ}
use lib.IntN.{ℤ, pos}
use Rattle.contacts.specs.declared.Vertex.{Vertex}
use Rattle.replies.specs.Replies.{Reply as Answer}
use Rattle.replies.specs.Refusals.{Codes, reply_of}
use Rattle.replies.specs.declared.Code.{Code}
use Rattle.editing.specs.Replacing.{Replaces}
use Rattle.replies.specs.declared.Refusal.{Refusal}
use Rattle.oldest.specs.Taken.{Taken as Answered, reason_of, whole_in}
use Rattle.turning.specs.Bounds.{Radius}
use Rattle.plane.proofs.Products.{bits}
use Rattle.kerb.specs.declared.Style.{Style}
use Rattle.words.specs.Words.{word_of}
use Rattle.outline.specs.Outlines.{join_word, closed_word}
use Rattle.outline.specs.declared.Edition.{Edition}
use Rattle.outline.specs.declared.Form.{Form}
use Rattle.outline.specs.declared.Form.TheVariants.{Stroke, Kerb}
use Rattle.outline.proofs.Parts.{coordinate_word, radius_size}
use Rattle.sehmelir.specs.declared.Path.{Path}
use Rattle.sehmelir.specs.declared.FormNumbers.{FormNumbers}
use Rattle.sehmelir.specs.Boundary.{radius_told, join_told, closed_told, FormTold, PathReplies, Replies, ReplaceReplies, whole_or0, Tells}
use Rattle.sehmelir.specs.declared.Reply.{Reply}
use Rattle.sehmelir.specs.declared.Taken.{Taken}

pub told : {p : Reply} {a n : ℕ} {t : Answer} → (a, n) ≡ t → (p.reply ≡ a) × (p.number ≡ n) × (p.grade ≡ 0) → Replies p t 0
told e h = record { reply = h.0 ∙ ap (λ (x : Answer). x.0) e; number = h.1 ∙ ap (λ (x : Answer). x.1) e; grade = h.2 }

pub told_code : {p : Reply} {c : Code} {t : Answer} → Codes c t → (p.reply ≡ c.reply) × (p.number ≡ c.number) × (p.grade ≡ 0) → Replies p t 0
told_code e h = record { reply = h.0 ∙ e.reply; number = h.1 ∙ e.number; grade = h.2 }

pub told_as : {p : Reply} {s t : Answer} {g : ℕ} → s ≡ t → Replies p s g → Replies p t g
told_as e h = rw e at h

pub graded_as : {p : Reply} {s t : Answer} {g h : ℕ} → s ≡ t → g ≡ h → Replies p s g → Replies p t h
graded_as e f r = rw (e, f) at r

-- a vertex by its three numbers
pub replaced_told : {s s₁ : List ℕ} {k : ℕ} {v : Vertex} {a : Result ℕ Refusal} {p : Reply} {x y radius : ℤ} → v.x ≡ x → v.y ≡ y → v.radius ≡ radius → Replaces s k v a s₁ → Replies p (reply_of a) 0 → ReplaceReplies s k (record { x = x; y = y; radius = radius }) p s₁
replaced_told {s} {s₁} {k} {v} {a} {p} ex ey er h q =
    let r : ReplaceReplies s k v p s₁ = record { replies = told_as h.reply q; store = h.store } in
    rw (ex, ey, er) at r

-- ---- a form in numbers

pub style_told : {r : FormNumbers} (y : Style) → Radius y.radius → r.kind ≡ 1 → r.radius ≡ word_of (bits y.radius) → r.join ≡ join_word y.join → r.closed ≡ closed_word y.closed → FormTold r (Kerb y)
unfolding radius_told join_told closed_told
style_told y h ek er ej ec = record { kind = ek; radius = coordinate_word (radius_size h) er; join = ej; closed = ec }

pub stroke_told : {r : FormNumbers} {f : Form} {e : Edition} → f ≡ Stroke e → r.kind ≡ 0 → r.radius ≡ 0 → r.join ≡ 0 → r.closed ≡ 0 → FormTold r f
unfolding radius_told join_told closed_told
stroke_told e ek er ej ec = rw e (record { kind = ek; radius = er; join = ej; closed = ec })

pub kerb_told : {r : FormNumbers} {f : Form} {y : Style} → f ≡ Kerb y → FormTold r (Kerb y) → FormTold r f
kerb_told e h = rw e h

pub path_as : {p : Path} {s t : Answer} {g h : ℕ} {e f : Form} → s ≡ t → g ≡ h → e ≡ f → PathReplies p s g e → PathReplies p t h f
path_as a b c r = rw (a, b, c) at r

pub path_told : {p : Path} {a : Reply} {n : FormNumbers} {t : Answer} {g : ℕ} {e f : Form} → Replies a t g → FormTold n e → e ≡ f
    → p.reply ≡ a.reply → p.number ≡ a.number → p.grade ≡ a.grade → p.kind ≡ n.kind → p.radius ≡ n.radius → p.join ≡ n.join → p.closed ≡ n.closed → PathReplies p t g f
path_told r n c er en eg ek ed ej ec =
    let m = rw c at n in
    record { reply = er ∙ r.reply; number = en ∙ r.number; grade = eg ∙ r.grade; kind = ek ∙ m.kind; radius = ed ∙ m.radius; join = ej ∙ m.join; closed = ec ∙ m.closed }

-- ---- a float: its whole number, or a reason without one

pub tells_whole : {p : Taken} {t : Answered} {n : ℤ} → t ≡ Ok n → p.reason ≡ 0 → p.whole ≡ n → Tells p t
unfolding reason_of whole_in whole_or0
tells_whole e f g = rw e (record { reason = f; whole = g })

pub tells_reason : {p : Taken} {s t : Answered} {k : ℕ} → t ≡ s → k ≡ reason_of s → whole_in s ≡ none → (p.reason ≡ k) × (p.whole ≡ pos 0) → Tells p t
unfolding whole_or0
tells_reason e f g h = rw e (record { reason = h.0 ∙ f; whole = h.1 ∙ rw (g, whole_or0) })

pub tells_as : {p : Taken} {s t : Answered} → s ≡ t → Tells p s → Tells p t
tells_as e h = rw e at h
