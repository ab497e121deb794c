-- The tour over a kerb's points, from what the code has computed. Assumes nothing.
use mathlib.Core.Path.{◌≡◌, sym, ap, ◌∙◌}
use mathlib.Core.Bool.{Bool}
use mathlib.Core.List.{List}
use Prim.Native.Nat.{ℕ, ◌≤◌, ◌<◌}
use native.Mathlib.Omega.{arith}
use lib.Dec.{ltb}
use lib.IntN.{ℤ}
use lib.ListN.{length, get_or}
use Rattle.runs.specs.Runs.{Room}
use Rattle.runs.proofs.Laws.{room_as}
use Rattle.turning.specs.Edges.{edge_numbers}
use Rattle.turning.proofs.Most.{edges_four}
use Rattle.folds.specs.declared.Pen.{Pen}
use Rattle.folds.proofs.Laid.{lays_as}
use Rattle.contacts.specs.declared.Vertex.{Vertex}
use Rattle.kerb.specs.Kerbs.{kerb_edges}
use Rattle.kerb.specs.Tours.{tour_from, ahead_of, emits_in, next_in, piece_of, tour_after, ends_in, ends_of, Touring, Ready, Tours}
use Rattle.kerb.specs.declared.Style.{Style}
use Rattle.kerb.specs.declared.Tour.{Tour}
use Rattle.kerb.specs.declared.touring.Toured.{Toured}
use Rattle.kerb.proofs.TourKept.{emits_ahead, next_ahead, kept_ready, touring_start, touring_next, left_told}
use Rattle.kerb.proofs.KerbMost.{kerb_most}
use Rattle.paths.specs.Paths.{none}
use Rattle.kerb_paths.specs.Points.{kerb_path, first_of, way_of, way_count, Lent}
use Rattle.kerb_paths.specs.Pieces.{Begun, Pieces}
use Rattle.kerb_paths.proofs.PointsAhead.{first_within, points_within, way_within, way_length, way_most, way_home}

-- no count wraps
pub kerb_room : (g : ℕ) (y : Style) (vs : List Vertex) → length vs ≤ 4096 → Room edge_numbers 0 (kerb_edges g y vs)
kerb_room g y vs h = record { fits = omega (arith, edges_four (kerb_edges g y vs), kerb_most g y vs, h) }

module _ (y : Style) (l : List ℤ) {n : ℕ} (h : Lent y l n) where
  abbrev vs : List Vertex
  vs = kerb_path y.radius l

  some : 0 < length vs
  some = omega (arith, h.count, h.some)

  -- a point that the way goes to, or the first again
  pub way_fits : {k : ℕ} → k ≤ length (way_of y (kerb_path y.radius l)) → k ≤ n
  way_fits e = omega (arith, h.count, way_most y vs some, e)

  pub begun_told : {v : Vertex} {w : Tour} → v ≡ get_or (kerb_path y.radius l) 0 none → w ≡ tour_from v → Begun y (kerb_path y.radius l) w
  unfolding first_of
  begun_told e f = let g = f ∙ ap tour_from e in record { tour = g; touring = touring_start g (first_within y l h.inside some) (way_home y vs some) }

  -- m is how many points the way has, first the first point, b the point ahead
  module _ (w : Tour) {m : ℕ} {first : Vertex} (b : Vertex) (k : Touring y (first_of (kerb_path y.radius l)) (way_of y (kerb_path y.radius l)) w)
      (em : m ≡ way_count y.closed n) (ef : first ≡ get_or (kerb_path y.radius l) 0 none)
      (eb : w.next < length (way_of y (kerb_path y.radius l)) → b ≡ get_or (way_of y (kerb_path y.radius l)) w.next none) where
    more_told : ltb w.next m ≡ ltb w.next (length (way_of y vs))
    more_told = ap (ltb w.next) (em ∙ ap (way_count y.closed) h.count ∙ sym (way_length y vs some))

    first_told : first ≡ first_of vs
    unfolding first_of
    first_told = ef

    pub piece_ready : Ready y first w (ltb w.next m) b
    piece_ready = rw first_told (kept_ready none (first_within y l h.inside some) (way_within y vs (points_within y l h.inside)) k.kept (omega (arith, h.count, h.few, way_most y vs some)) more_told eb)

    module _ (pen : Pen) where
      emits : emits_in w.phase pen.step y (ahead_of (ltb w.next m) b) w ≡ piece_of pen.step y (way_of y vs) w
      emits = emits_ahead pen.step y first (way_of y vs) w (ltb w.next m) b none more_told eb

      pub piece_fits : {at : ℕ} → Room edge_numbers at (piece_of pen.step y (way_of y (kerb_path y.radius l)) w) → Room edge_numbers at (emits_in w.phase pen.step y (ahead_of (ltb w.next m) b) w)
      piece_fits r = room_as (sym emits) r

      pub piece_told : {l₀ l₁ : List ℤ} {at : ℕ} {r : Toured} {x : Bool} → x ≡ ends_in w.phase (ltb w.next m)
          → Tours l₀ at pen (next_in w.phase first (ahead_of (ltb w.next m) b) w) (emits_in w.phase pen.step y (ahead_of (ltb w.next m) b) w) l₁ r
          → Pieces pen y (kerb_path y.radius l) w l₀ at l₁ (record { tour = r.tour; at = r.at; ends = x })
      unfolding ends_of
      piece_told e p =
          let u = p.tour ∙ next_ahead pen.step y first (way_of y vs) w (ltb w.next m) b none more_told eb ∙ ap (λ v. tour_after v (way_of y vs) w) first_told in
          record {
            tour = u;
            made = lays_as (sym emits) p.made;
            ends = e ∙ ap (ends_in w.phase) more_told;
            touring = touring_next (first_of vs) h.styled (way_of y vs) w u (first_within y l h.inside some) (way_within y vs (points_within y l h.inside)) (way_home y vs some) k;
            fewer = left_told (first_of vs) (way_of y vs) w u;
          }
