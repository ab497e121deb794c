-- Side by side as a part, from what the code has put into it, and that its promise allows one. Assumes nothing.
use Rattle.std.specs.Prelude.{Result, Ok, Err}
use mathlib.Core.Path.{◌≡◌, refl, sym, ◌∙◌}
use mathlib.Core.Bool.{Bool, true, false}
use mathlib.Core.List.{List}
use Prim.Native.Nat.{ℕ, ◌*◌, ◌^◌, ◌<◌}
use native.Mathlib.Omega.{arith}
use lib.Dec.{eqb}
use lib.ListN.{length}
use Rattle.replies.specs.Refusals.{refusal_of}
use Rattle.replies.specs.declared.Refusal.{Refusal}
use Rattle.replies.proofs.Rows.{refusal_some}
use Rattle.sides.specs.Sides.{reply_of_located, offset_of_located, length_of_located, Locates}
use Rattle.sides.specs.declared.Sheet.{Sheet}
use Rattle.sides.specs.declared.Sheet.TheVariants.{Before, After}
use Rattle.sides.specs.declared.Located.{Located}
use Rattle.sides.proofs.Answers.{of_chosen}
use Rattle.sehmelir.specs.ChunkBoundary.{part_length, PartReplies}
use Rattle.sehmelir.specs.SideBoundary.{sheet_of, PlaceReplies, SideReplies, OneSideReply}
use Rattle.sehmelir.specs.declared.chunk_calls.Part.{Part}

pub sheet_later : {later : Bool} → later ≡ true → After ≡ sheet_of later
unfolding sheet_of
sheet_later e = rw e refl

pub sheet_earlier : {later : Bool} → later ≡ false → Before ≡ sheet_of later
unfolding sheet_of
sheet_earlier e = rw e refl

-- a body's bytes are four words an edge
pub body-bytes : {a : Result Located Refusal} {b : Located} → a ≡ Ok b → length_of_located a < 2 ^ 64 → 16 * b.edges < 2 ^ 64
unfolding length_of_located
body-bytes e h = rw e at h

pub place_body : {p : Part} {a : Result Located Refusal} {b : Located} {n : ℕ} → a ≡ Ok b → n ≡ 16 * b.edges
    → (p.reply ≡ 0) × (p.zero ≡ 0) × (p.number ≡ b.edges) × (p.offset ≡ b.offset) × (p.length ≡ n)
    → PlaceReplies p (reply_of_located a) (offset_of_located a) (length_of_located a)
unfolding reply_of_located offset_of_located length_of_located
place_body e f h = rw e (record { reply = h.0; zero = h.1; number = h.2; offset = h.3; length = h.4 ∙ f })

pub place_refused : {p : Part} {a : Result Located Refusal} {r : Refusal} → a ≡ Err r → PartReplies p (refusal_of r) 0
    → PlaceReplies p (reply_of_located a) (offset_of_located a) (length_of_located a)
unfolding reply_of_located offset_of_located length_of_located part_length
place_refused {r = r} e h =
    let f : eqb (refusal_of r).0 0 ≡ false = refusal_some r in
    rw e (record { reply = h.reply; zero = h.zero; number = h.number; offset = h.offset; length = h.length ∙ rw (f, part_length) })

-- what is located lies inside the chosen sheet, so that no length wraps
pub length_fits : {before after : List ℕ} {sheet : Sheet} {i : ℕ} {a : Result Located Refusal} → Locates before after sheet i a → length before < 2 ^ 64 → length after < 2 ^ 64
    → length_of_located a < 2 ^ 64
length_fits {before} {after} {sheet} h b d = omega (arith, h.inside, of_chosen (λ (l : List ℕ). length l < 2 ^ 64) sheet before after b d)

pub side_told : {before after : List ℕ} {later : Bool} {sheet : Sheet} {i : ℕ} {a : Result Located Refusal} {p : Part} → sheet ≡ sheet_of later → Locates before after sheet i a
    → PlaceReplies p (reply_of_located a) (offset_of_located a) (length_of_located a)
    → SideReplies before after later i p
side_told {before} {after} {later} {sheet} {i} {a} e h q =
    let l : Locates before after (sheet_of later) i a = rw e at h in
    record { replies = rw (l.reply, l.offset, l.size) at q }

pub one_side_reply : OneSideReply
one_side_reply before after later i p q a b =
    λ j. record {
      reply = (a.replies.reply ∙ sym b.replies.reply) j;
      zero = (a.replies.zero ∙ sym b.replies.zero) j;
      number = (a.replies.number ∙ sym b.replies.number) j;
      offset = (a.replies.offset ∙ sym b.replies.offset) j;
      length = (a.replies.length ∙ sym b.replies.length) j;
    }
