-- What drawing a kerb wrote, read as edges, is the kerb's edges, and those close. Assumes nothing.
use mathlib.Core.Path.{◌≡◌, refl, sym, ap, ◌∙◌}
use mathlib.Core.List.{List, [], ◌∷◌, ◌++◌}
use Prim.Native.Nat.{ℕ, ◌*◌}
use native.Mathlib.Omega.{arith}
use lib.IntN.{ℤ, pos}
use lib.ListN.{length, take, drop}
use lib.Seq.{take_at}
use Rattle.runs.specs.Runs.{spread}
use Rattle.turning.specs.Edges.{edge_numbers}
use Rattle.turning.specs.declared.Edge.{Edge}
use Rattle.turning.proofs.Most.{edges_four}
use Rattle.kerb.specs.Styles.{style_of}
use Rattle.kerb_paths.specs.Points.{kerb_path}
use Rattle.replies.specs.Replies.{Reply, draw_grade_row, count_row, outside_row, empty_row, room_row, written}
use Rattle.replies.specs.StyleRows.{style_row}
use Rattle.replies.proofs.Rows.{NoneHold, first-none, none_last}
use Rattle.kerb_rows.specs.KerbRows.{pairs_row, kerb_rows, kerb_due}
use Rattle.kerb_drawing.specs.KerbDrawing.{draw_kerb_reply, draw_kerb_out}
use Rattle.closing.proofs.KerbsClose.{kerb_closes}
use Rattle.boundaries.specs.Results.{edges_from, KerbDrawnCloses}
use Rattle.boundaries.proofs.EdgesAgain.{edges_again}

module _ (l : List ℤ) (g r j c room : ℕ) (h : (draw_kerb_reply l g r j c room).0 ≡ 0) where
  abbrev due : List Edge
  due = kerb_due l g r j c

  kerb_drawn_none : NoneHold (kerb_rows l g r j c ++ (empty_row (length (kerb_path (pos r) l)) (length due) ∷ room_row (4 * length due) room (length due) ∷ []))
  unfolding draw_kerb_reply kerb_rows pairs_row draw_grade_row style_row count_row outside_row empty_row room_row
  kerb_drawn_none = first-none _ _ (refl, (refl, (refl, (refl, (refl, (refl, (refl, tt))))))) h

  kerb_drawn_number : (draw_kerb_reply l g r j c room).1 ≡ length due
  unfolding draw_kerb_reply
  kerb_drawn_number = ap (λ (x : Reply). x.1) (none_last _ _ kerb_drawn_none)

pub kerb_drawn_closes : KerbDrawnCloses
unfolding draw_kerb_out written kerb_due
kerb_drawn_closes l g r j c m out e =
    let h : (draw_kerb_reply l g r j c (length out)).0 ≡ 0 = ap (λ (x : Reply). x.0) e in
    let es = kerb_due l g r j c in
    let n : length es ≡ m = sym (kerb_drawn_number l g r j c (length out) h) ∙ ap (λ (x : Reply). x.1) e in
    let o : draw_kerb_out l g r j c out ≡ spread edge_numbers es ++ drop (length (spread edge_numbers es)) out = rw (h, written) in
    let k : edges_from (take (4 * m) (draw_kerb_out l g r j c out)) ≡ es =
    ap edges_from (ap (take (4 * m)) o ∙ take_at (spread edge_numbers es) _ (4 * m) (omega (arith, edges_four es, n))) ∙ edges_again es in
    rw k (n, kerb_closes g (style_of r j c) (kerb_path (pos r) l))
