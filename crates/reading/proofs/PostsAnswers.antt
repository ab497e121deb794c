-- What the call that gives the posts answers, case by case; that what is kept gives its posts; and that two outcomes coincide. Assumes nothing.
use Rattle.std.specs.Prelude.{Result, Ok, Err}
use mathlib.Core.Path.{◌≡◌, sym, ap, ◌∙◌}
use mathlib.Core.List.{List, [], ◌∷◌, ◌++◌}
use Prim.Native.Nat.{ℕ, ◌≤◌, ◌<◌}
use native.Mathlib.Omega.{arith}
use lib.IntN.{ℤ}
use lib.ListN.{length, drop}
use Rattle.contacts.specs.declared.Vertex.{Vertex}
use Rattle.outline.specs.Theorems.{Formed}
use Rattle.outline.specs.Outlines.{outline_bytes}
use Rattle.outline.specs.Stores.{form_in, path_in, posts_of, posts_in}
use Rattle.outline.specs.declared.Edition.{Edition}
use Rattle.outline.specs.declared.Form.TheVariants.{Stroke}
use Rattle.outline.proofs.ReadBack.{posts_count_in, posts_again, vertices_back}
use Rattle.replies.specs.Replies.{written}
use Rattle.replies.specs.Refusals.{refusal_of, reply_of}
use Rattle.replies.specs.declared.Refusal.{Refusal}
use Rattle.replies.specs.declared.Refusal.TheVariants.{NoRoom}
use Rattle.replies.proofs.OneOutcome.{one_answer}
use Rattle.replies.proofs.Rows.{first_skip, room_short, room_enough, refused_written, done_written}
use Rattle.heading.specs.Headers.{KerbRefused}
use Rattle.heading.specs.StoreRows.{store_rows}
use Rattle.heading.specs.declared.Header.{Header}
use Rattle.checking.specs.OtherKind.{other_kind_row}
use Rattle.checking.specs.StoreChecks.{Sound, StoreSays}
use Rattle.checking.proofs.KeptStore.{store-none}
use Rattle.checking.proofs.OtherKinds.{stroke_passes, kerb_refused, kept_stroke}
use Rattle.checking.proofs.StoreReads.{store_refuses, store_passes, header_count}
use Rattle.reading.specs.PostsReading.{posts_reply, posts_out, ReadsPosts, KeptPostsAreRead, OnePostsReading}

posts_refusal : {s : List ℕ} (out : List ℕ) (r : Refusal) → refusal_of r ≡ posts_reply s (length out) → ReadsPosts s out (Err r) out
unfolding posts_out
posts_refusal {s} out r e = record { reply = e; out = refused_written r (posts_in s) out e }

pub posts_refused : {s : List ℕ} {p : List ℤ} {c : Result Header Refusal} {r : Refusal} (out : List ℕ) → c ≡ Err r → StoreSays s p c → ReadsPosts s out (Err r) out
unfolding posts_reply
posts_refused {r = r} out e a = posts_refusal out r (store_refuses _ _ a e)

module _ {s : List ℕ} {h : Header} (out : List ℕ) (a : Sound s h) where
  pub posts_other : {r : Refusal} → KerbRefused h.form r → ReadsPosts s out (Err r) out
  unfolding posts_reply
  posts_other {r} (q, (y, e)) = posts_refusal out r (rw q (kerb_refused a.head _ _ e ∙ sym (store_passes _ _ a)))

  module _ {d : Edition} (e : h.form ≡ Stroke d) where
    pub posts_short : length out < h.n → ReadsPosts s out (Err (NoRoom h.n)) out
    unfolding posts_reply
    posts_short l =
        let n = length (path_in s) in
        let q = header_count a.head in
        posts_refusal out (NoRoom h.n) (sym (store_passes _ (0, n) a ∙ stroke_passes a.head _ (0, n) e ∙ room_short n (length out) n (0, n) (omega (arith, q, l)) ∙ ap (λ (k : ℕ). (5, k)) (sym q)))

    pub posts_read : {out₁ : List ℕ} → h.n ≤ length out → out₁ ≡ posts_of (Stroke d) h.n s ++ drop h.n out → ReadsPosts s out (Ok h.n) out₁
    unfolding posts_reply posts_out posts_in
    posts_read {out₁} l p =
        let n = length (path_in s) in
        let q = header_count a.head in
        let f : Stroke d ≡ form_in s = sym e ∙ a.head.form in
        let same : posts_of (Stroke d) h.n s ≡ posts_in s = λ i. posts_of (f i) (a.head.vertices i) s in
        let k : h.n ≡ length (posts_in s) = a.head.vertices ∙ sym (posts_count_in s (sym f)) in
        let g : (0, h.n) ≡ posts_reply s (length out) = ap (λ (j : ℕ). (0, j)) q ∙ sym (store_passes _ (0, n) a ∙ stroke_passes a.head _ (0, n) e ∙ room_enough n (length out) n (0, n) (omega (arith, q, l))) in
        record { reply = g; out = p ∙ (λ i. same i ++ drop (k i) out) ∙ done_written h.n (posts_in s) out g }

posts_reply_lem : (e : Edition) (g : ℕ) (ps : List ℕ) (vs : List Vertex) (rest : List ℕ) (room : ℕ) → Formed (Stroke e) g ps vs → length vs ≤ room
    → posts_reply (outline_bytes (Stroke e) g ps vs ++ rest) room ≡ (0, length vs)
unfolding posts_reply
posts_reply_lem e g ps vs rest room h k =
    let s = outline_bytes (Stroke e) g ps vs ++ rest in
    first_skip (store_rows s) _ _ (store-none (Stroke e) g ps vs rest h)
    ∙ first_skip (other_kind_row s ∷ []) _ _ (kept_stroke e g ps vs rest h, tt)
    ∙ rw (vertices_back (Stroke e) g ps vs rest h) (room_enough (length vs) room (length vs) (0, length vs) k)

pub kept_posts_are_read : KeptPostsAreRead
unfolding posts_out written
kept_posts_are_read e g ps vs rest room h k =
    let q = posts_reply_lem e g ps vs rest (length room) h k in
    (q, rw (q, written, posts_again (Stroke e) g ps vs rest h))

pub one_posts_reading : OnePostsReading
one_posts_reading s out r q o p h k = (one_answer r q (h.reply ∙ sym k.reply), h.out ∙ sym k.out)
