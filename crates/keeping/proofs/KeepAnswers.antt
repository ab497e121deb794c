-- What keep makes of a path: the rows' refusal, or the outline where the room's row lets it. Assumes nothing.
use Rattle.std.specs.Prelude.{Result, Err}
use mathlib.Core.Path.{◌≡◌, refl, sym, ap, ◌∙◌}
use mathlib.Core.List.{List, [], ◌∷◌, ◌++◌, append-nil}
use Prim.Native.Nat.{ℕ, zero, suc, ◌-◌}
use native.Mathlib.Omega.{arith}
use lib.IntN.{ℤ}
use lib.ListN.{length, get_or, replicate}
use Rattle.paths.specs.Paths.{path_of, edges_of}
use Rattle.outline.specs.Outlines.{outline_bytes}
use Rattle.outline.specs.Theorems.{no_posts}
use Rattle.outline.proofs.Parts.{same_outline}
use Rattle.outline.specs.declared.Edition.TheVariants.{Second}
use Rattle.outline.specs.declared.Form.TheVariants.{Stroke}
use Rattle.replies.specs.Replies.{Reply, first_row, empty_row, room_row, path_rows, written}
use Rattle.keeping.specs.Keeping.{write_rows, plain_posts, keep_reply, keep_out, Keeps}
use Rattle.replies.specs.Refusals.{refusal_of, reply_of}
use Rattle.replies.specs.Checks.{Fits, PathSays}
use Rattle.keeping.specs.Rewriting.{Rewrites}
use Rattle.replies.specs.declared.Refusal.{Refusal}
use Rattle.replies.proofs.Rows.{rows_append, refused_written}
use Rattle.replies.proofs.PathChecks.{path_refuses}

-- from an old end at 0 there are no zeros
pub no_zeros : (new : List ℕ) → new ++ replicate (0 - length new) 0 ≡ new
no_zeros new = let e : 0 - length new ≡ 0 = omega arith in rw e (append-nil new)

pub keeps_done : (path : List ℤ) (ps : List ℕ) {g n : ℕ} {out out₁ : List ℕ} {r : Result ℕ Refusal} → Fits path g n → Rewrites out (Stroke Second) g ps (path_of path) 0 r out₁ → Keeps path ps g out r out₁
unfolding keep_reply keep_out
keeps_done path ps {g} {out = out} {r = r} h p =
    let new = outline_bytes (Stroke Second) g ps (path_of path) in
    let k : reply_of r ≡ keep_reply path ps g (length out) = p.reply ∙ sym (rows_append (path_rows path g) _ (0, length new) ∙ h.passed _) in
    record { reply = k; out = p.bytes ∙ (λ i. written (k i) (no_zeros new i) out) }

pub keeps_refused : (path : List ℤ) (ps : List ℕ) {g : ℕ} (out : List ℕ) {r : Refusal} → PathSays path g (Err r) → Keeps path ps g out (Err r) out
unfolding keep_reply keep_out
keeps_refused path ps {g} out {r} s =
    let k : refusal_of r ≡ keep_reply path ps g (length out) = path_refuses path _ _ s refl in
    record { reply = k; out = refused_written r (outline_bytes (Stroke Second) g ps (path_of path)) out k }

-- ---- posts that are all 0 are none

zeros_each : (n k : ℕ) → get_or (no_posts n) k 0 ≡ 0
unfolding no_posts
zeros_each zero k = refl
zeros_each (suc n) zero = refl
zeros_each (suc n) (suc k) = zeros_each n k

one_zero : (k : ℕ) → get_or {A = ℕ} (0 ∷ []) k 0 ≡ 0
one_zero zero = refl
one_zero (suc k) = refl

pub keeps_plain : (path : List ℤ) {ps : List ℕ} {g : ℕ} {out out₁ : List ℕ} {r : Result ℕ Refusal} → ps ≡ 0 ∷ [] → Keeps path ps g out r out₁ → Keeps path (plain_posts path) g out r out₁
unfolding keep_reply keep_out write_rows plain_posts
keeps_plain path {ps} {g} {out} e p =
    let vs = path_of path in
    let s : outline_bytes (Stroke Second) g ps vs ≡ outline_bytes (Stroke Second) g (no_posts (length vs)) vs =
    same_outline Second g vs ps (no_posts (length vs)) (λ k. ap (λ (l : List ℕ). get_or l k 0) e ∙ one_zero k ∙ sym (zeros_each (length vs) k)) in
    let replied : List ℕ → Reply = λ b. first_row (path_rows path g ++ (empty_row (length vs) (length (edges_of g vs)) ∷ room_row (length b) (length out) (length b) ∷ [])) (0, length b) in
    record { reply = p.reply ∙ ap replied s; out = p.out ∙ ap (λ (b : List ℕ). written (replied b) b out) s }
