-- What draw answers, case by case. Assumes nothing.
use Rattle.std.specs.Prelude.{Ok, Err}
use mathlib.Core.Path.{◌≡◌, refl, sym, ap, ◌∙◌}
use mathlib.Core.List.{List}
use Prim.Native.Nat.{ℕ, ◌*◌, ◌/◌, ◌≤◌, ◌<◌}
use native.Mathlib.Omega.{arith}
use lib.IntN.{ℤ}
use lib.ListN.{length}
use Rattle.runs.specs.Runs.{spread, Runs, put}
use Rattle.runs.proofs.Laws.{runs_none, runs_as}
use Rattle.runs.proofs.Written.{written_whole}
use Rattle.plane.specs.Directions.{step_of}
use Rattle.plane.specs.declared.Vector.{Vector}
use Rattle.turning.specs.Edges.{edge_numbers}
use Rattle.turning.proofs.Most.{edges_four}
use Rattle.paths.specs.Paths.{path_of, bodies_at, joined, edges_of}
use Rattle.paths.proofs.PathWalk.{edges-none}
use Rattle.replies.specs.Replies.{path_rows}
use Rattle.drawing.specs.Drawing.{draw_reply, draw_out, Draws}
use Rattle.replies.specs.Refusals.{refusal_of, reply_of}
use Rattle.replies.specs.Checks.{Fits, PathSays}
use Rattle.replies.proofs.Rows.{rows_append, empty_holds, empty_fails, empty_passes, room_short, room_enough, refused_written, done_written}
use Rattle.replies.specs.declared.Refusal.{Refusal}
use Rattle.replies.specs.declared.Refusal.TheVariants.{NoRoom, WithoutEdges}
use Rattle.replies.proofs.PathChecks.{walk_edges, numbers_walked, count_of, path_refuses}

-- w is the position that the walk came to
module _ (path : List ℤ) {g n w : ℕ} {t : Vector} {l l₁ : List ℤ} (h : Fits path g n) (e : t ≡ step_of g)
    (p : Runs put edge_numbers l 0 (joined (bodies_at t (path_of path))) l₁ w) where
  pub draws_empty : (out : List ℤ) → 0 < n → w ≡ 0 → Draws path g out (Err (WithoutEdges n)) out
  unfolding draw_reply draw_out
  draws_empty out s z =
      let m = length (edges_of g (path_of path)) in
      let k = length (path_of path) in
      let r : (18, n) ≡ draw_reply path g (length out) =
      ap (λ (x : ℕ). (18, x)) h.count ∙ sym (rows_append (path_rows path g) _ (0, m) ∙ h.passed _ ∙ empty_holds k m _ (0, m) (omega (arith, s, h.count)) (omega (arith, numbers_walked path g e p))) in
      record { reply = r; out = refused_written (WithoutEdges n) (spread edge_numbers (edges_of g (path_of path))) out r }

  pub draws_short : (out : List ℤ) → length out < w → Draws path g out (Err (NoRoom (w / 4))) out
  unfolding draw_reply draw_out
  draws_short out k =
      let m = length (edges_of g (path_of path)) in
      let f = numbers_walked path g e p in
      let r : (5, w / 4) ≡ draw_reply path g (length out) =
      sym (rows_append (path_rows path g) _ (0, m) ∙ h.passed _ ∙ empty_fails (length (path_of path)) m _ (0, m) (omega arith) ∙ room_short (4 * m) (length out) m (0, m) (omega arith) ∙ ap (λ (x : ℕ). (5, x)) (sym (count_of path g e p))) in
      record { reply = r; out = refused_written (NoRoom (w / 4)) (spread edge_numbers (edges_of g (path_of path))) out r }

pub draws_done : (path : List ℤ) {g n w : ℕ} {t : Vector} {out out₁ : List ℤ} → Fits path g n → t ≡ step_of g
    → Runs put edge_numbers out 0 (joined (bodies_at t (path_of path))) out₁ w → (0 < n → 0 < w) → w ≤ length out → Draws path g out (Ok (w / 4)) out₁
unfolding draw_reply draw_out
draws_done path {g} {n} {w} {t} {out} {out₁} h e p s k =
    let es = edges_of g (path_of path) in
    let m = length es in
    let f = numbers_walked path g e p in
    let some : 0 < length (path_of path) → 0 < m = λ i. omega (arith, f, s (omega (arith, i, h.count))) in
    let r : (0, w / 4) ≡ draw_reply path g (length out) =
    ap (λ (x : ℕ). (0, x)) (count_of path g e p) ∙ sym (rows_append (path_rows path g) _ (0, m) ∙ h.passed _ ∙ empty_passes (length (path_of path)) m _ (0, m) some ∙ room_enough (4 * m) (length out) m (0, m) (omega arith)) in
    record {
      reply = r;
      out = written_whole (rw (walk_edges g (path_of path) e) at p) (omega (arith, f, edges_four es)) ∙ done_written (w / 4) (spread edge_numbers es) out r;
    }

-- a path of no vertices has no edges
pub draws_none : (path : List ℤ) {g n : ℕ} (out : List ℤ) → Fits path g n → n ≡ 0 → Draws path g out (Ok 0) out
draws_none path {g} out h e = draws_done path h refl (runs_as (edges-none (step_of g) (path_of path) (omega (arith, h.count))) runs_none) (λ i. absurd (omega arith)) (omega arith)

-- a path that its rows refuse
pub draws_refused : (path : List ℤ) {g : ℕ} (out : List ℤ) {r : Refusal} → PathSays path g (Err r) → Draws path g out (Err r) out
unfolding draw_reply draw_out
draws_refused path {g} out {r} s =
    let k : refusal_of r ≡ draw_reply path g (length out) = path_refuses path _ _ s refl in
    record { reply = k; out = refused_written r (spread edge_numbers (edges_of g (path_of path))) out k }
