-- What drawing a kerb answers, case by case; what own numbers hold of it; and a kerb with edges is drawn into room enough. Assumes nothing.
use Rattle.std.specs.Prelude.{Ok, Err}
use mathlib.Core.Path.{◌≡◌, refl, sym, ap, ◌∙◌}
use mathlib.Core.List.{List, [], ◌∷◌}
use Prim.Native.Nat.{ℕ, ◌*◌, ◌/◌, ◌≤◌, ◌<◌}
use native.Mathlib.Omega.{arith}
use lib.IntN.{ℤ, pos}
use lib.ListN.{length, take}
use Rattle.runs.specs.Runs.{spread, over, Runs, put}
use Rattle.runs.proofs.Laws.{runs_none, runs_as}
use Rattle.runs.proofs.Written.{written-length, written_behind, written_whole}
use Rattle.turning.specs.Edges.{edge_numbers}
use Rattle.turning.specs.declared.Edge.{Edge}
use Rattle.turning.proofs.Most.{edges_four}
use Rattle.kerb.specs.Kerbs.{kerb_edges}
use Rattle.kerb.specs.Styles.{style_of}
use Rattle.kerb.specs.declared.Style.{Style}
use Rattle.kerb_paths.specs.Points.{kerb_path}
use Rattle.kerb_paths.proofs.PointsAhead.{kerb_empty}
use Rattle.replies.specs.Replies.{first_row, empty_row, room_row}
use Rattle.replies.specs.Refusals.{refusal_of, reply_of}
use Rattle.replies.specs.declared.Refusal.{Refusal}
use Rattle.replies.specs.declared.Refusal.TheVariants.{NoRoom, WithoutEdges}
use Rattle.replies.proofs.Rows.{rows_append, empty_holds, empty_fails, empty_passes, room_short, room_enough, refused_written, done_written}
use Rattle.kerb_rows.specs.KerbRows.{kerb_rows, kerb_due, KerbFits, KerbSays}
use Rattle.kerb_rows.proofs.KerbChecks.{within_passes, kerb_refuses, due_told, count_told}
use Rattle.kerb_drawing.specs.Counted.{Counted}
use Rattle.kerb_drawing.specs.KerbDrawing.{draw_kerb_reply, draw_kerb_out, DrawsKerb, KerbIsDrawn}

-- ---- edges counted over own numbers

pub counted_told : {own₀ own₁ : List ℤ} {es : List Edge} {m : ℕ} → Runs put edge_numbers own₀ 0 es own₁ m → Counted es own₁ m
counted_told p = record { size = omega (arith, p.pos); held = λ k. written_behind (omega (arith, k, written-length p)) p }

pub counted_put : {own out out₁ : List ℤ} {es : List Edge} {m : ℕ} → Counted es own m → m ≤ length own → out₁ ≡ over put out 0 (take m own) → Runs put edge_numbers out 0 es out₁ m
counted_put {out = out} h k e = record { out = e ∙ ap (over put out 0) (h.held k); pos = omega (arith, h.size) }

-- ---- answers

module _ (l : List ℤ) (g r j c : ℕ) where
  -- a refusal changes nothing
  refuses : (x : Refusal) (out : List ℤ) → refusal_of x ≡ draw_kerb_reply l g r j c (length out) → DrawsKerb l g r j c out (Err x) out
  unfolding draw_kerb_out
  refuses x out e = record { reply = e; out = refused_written x (spread edge_numbers (kerb_due l g r j c)) out e }

  pub kerb_refused : (out : List ℤ) {x : Refusal} → KerbSays l g r j c (Err x) → DrawsKerb l g r j c out (Err x) out
  unfolding draw_kerb_reply
  kerb_refused out {x} s = refuses x out (kerb_refuses l _ _ s)

  -- the rows past the kerb's own
  module _ {n : ℕ} (h : KerbFits l g r j c n) where
    further : (room : ℕ) → draw_kerb_reply l g r j c room ≡ first_row (empty_row (length (kerb_path (pos r) l)) (length (kerb_due l g r j c)) ∷ room_row (4 * length (kerb_due l g r j c)) room (length (kerb_due l g r j c)) ∷ []) (0, length (kerb_due l g r j c))
    unfolding draw_kerb_reply
    further room = rows_append (kerb_rows l g r j c) _ _ ∙ h.passed _

    due : (room : ℕ) → (0 < length (kerb_path (pos r) l) → 0 < length (kerb_due l g r j c)) → 4 * length (kerb_due l g r j c) ≤ room → draw_kerb_reply l g r j c room ≡ (0, length (kerb_due l g r j c))
    due room some k =
        let m = length (kerb_due l g r j c) in
        further room ∙ empty_passes (length (kerb_path (pos r) l)) m _ _ some ∙ room_enough (4 * m) room m (0, m) k

    -- y is the style, w the position that its edges came to
    module _ {y : Style} {w : ℕ} {s s₁ : List ℤ} (e : y ≡ style_of r j c) (p : Runs put edge_numbers s 0 (kerb_edges g y (kerb_path y.radius l)) s₁ w) where
      numbers_due : w ≡ 4 * length (kerb_due l g r j c)
      numbers_due = omega (arith, p.pos, edges_four (kerb_due l g r j c), ap (λ (es : List Edge). length (spread edge_numbers es)) (due_told l r j c e g))

      count_due_lem : w / 4 ≡ length (kerb_due l g r j c)
      count_due_lem = omega (arith, numbers_due)

      pub kerb_bare : (out : List ℤ) → w ≡ 0 → 0 < n → DrawsKerb l g r j c out (Err (WithoutEdges n)) out
      kerb_bare out z k =
          refuses (WithoutEdges n) out (sym (further (length out) ∙ empty_holds (length (kerb_path (pos r) l)) (length (kerb_due l g r j c)) _ _ (omega (arith, h.count, k)) (omega (arith, numbers_due, z)) ∙ ap (λ (i : ℕ). (18, i)) (sym h.count)))

      pub kerb_short : (out : List ℤ) → length out < w → DrawsKerb l g r j c out (Err (NoRoom (w / 4))) out
      kerb_short out k =
          let m = length (kerb_due l g r j c) in
          refuses (NoRoom (w / 4)) out (sym (further (length out) ∙ empty_fails (length (kerb_path (pos r) l)) m _ _ (omega (arith, numbers_due, k)) ∙ room_short (4 * m) (length out) m (0, m) (omega (arith, numbers_due, k)) ∙ ap (λ (i : ℕ). (5, i)) (sym count_due_lem)))

      pub kerb_done : (0 < n → 0 < w) → w ≤ length s → DrawsKerb l g r j c s (Ok (w / 4)) s₁
      unfolding draw_kerb_out
      kerb_done z k =
          let es = kerb_due l g r j c in
          let some : 0 < length (kerb_path (pos r) l) → 0 < length es = λ i. omega (arith, numbers_due, z (omega (arith, i, h.count))) in
          let x : (0, w / 4) ≡ draw_kerb_reply l g r j c (length s) = ap (λ (i : ℕ). (0, i)) count_due_lem ∙ sym (due (length s) some (omega (arith, numbers_due, k))) in
          record {
            reply = x;
            out = written_whole (runs_as (sym (due_told l r j c e g)) p) (omega (arith, edges_four es, numbers_due, k)) ∙ done_written (w / 4) (spread edge_numbers es) s x;
          }

    -- no points have no edges
    pub kerb_none : (out : List ℤ) → n ≡ 0 → DrawsKerb l g r j c out (Ok 0) out
    kerb_none out e =
        kerb_done {y = style_of r j c} refl (runs_as (kerb_empty g (style_of r j c) _ (sym (count_told l r j c {y = style_of r j c} refl h.count) ∙ e)) runs_none) (λ i. absurd (omega (arith, i, e))) (omega arith)

pub kerb_is_drawn : KerbIsDrawn
kerb_is_drawn l g r j c room h low s w some k = due l g r j c (within_passes l h low s w) room some k
