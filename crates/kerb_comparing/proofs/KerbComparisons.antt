-- A store compared with the outline of a kerb: point by point, and then piece by piece. Assumes nothing.
use mathlib.Core.Path.{◌≡◌, refl, sym, ap, ◌∙◌}
use mathlib.Core.Bool.{Bool, true, false}
use mathlib.Core.List.{List, [], ◌∷◌, ◌++◌}
use Prim.Native.Nat.{ℕ, ◌+◌, ◌*◌, ◌/◌, ◌≤◌, ◌<◌}
use native.Mathlib.Omega.{arith}
use lib.IntN.{ℤ, pos}
use lib.ListN.{length, take}
use lib.Signed.{le_z}
use Rattle.runs.specs.Runs.{spread, Runs, agree}
use Rattle.runs.proofs.Laws.{runs_none, runs_as, runs_to, runs_then}
use Rattle.runs.proofs.Onward.{Onward, onward_step, onward_as, onward_done}
use Rattle.plane.specs.Directions.{step_of}
use Rattle.plane.specs.declared.Vector.{Vector}
use Rattle.folds.proofs.Laid.{lays_plain}
use Rattle.contacts.specs.declared.Vertex.{Vertex}
use Rattle.kerb.specs.Kerbs.{kerb_bodies, kerb_edges}
use Rattle.kerb.specs.Tours.{tour_from, done_of, Touring}
use Rattle.kerb.specs.declared.Style.{Style}
use Rattle.kerb.specs.declared.Tour.{Tour}
use Rattle.kerb_paths.specs.Points.{first_of, way_of}
use Rattle.kerb_paths.specs.Pieces.{Pieces}
use Rattle.kerb_paths.specs.declared.pieces.Pieced.{Pieced}
use Rattle.words.specs.Words.{words_of, four_bytes}
use Rattle.outline.specs.Outlines.{point_words, counts_of, kerb_table, body_words}
use Rattle.outline.specs.declared.Form.TheVariants.{Kerb}
use Rattle.outline.proofs.OwnNumbers.{own_words}
use Rattle.outline.proofs.Parts.{bodies_bytes}
use Rattle.outline.proofs.ReadBack.{few_edges}
use Rattle.comparing.specs.Compares.{Agrees}
use Rattle.comparing.specs.declared.Compared.{Compared}
use Rattle.kerb_outline.specs.Remaining.{piece_numbers, count_due, count_left, counts_ahead, words_ahead, piece_ends, TourRoom}
use Rattle.kerb_outline.proofs.CountsAhead.{counts_step, words_step, room_after, counts_done, words_done, counts-start, words-start, edges-start}
use Rattle.kerb_outline.proofs.PieceRoom.{counts_three, piece_few, piece_own, count_told}
use Rattle.kerb_comparing.specs.KerbCompares.{CountAgrees, PieceAgrees, TourAgrees, NoBodies}
use Rattle.kerb_comparing.specs.declared.KerbComparing.{KerbComparing}
use Rattle.kerb_comparing.specs.declared.Counted.{Counted}

-- ---- a count

pub count_due_lem : (s : List ℕ) {table entry k : ℕ} {x : Bool} {r : ℕ} → x ≡ true → Runs (agree s) four_bytes table entry (k ∷ []) r (entry + 4) → CountAgrees s table entry x k (record { count = 0; table = r; entry = entry + 4 })
unfolding count_due count_left
count_due_lem s e p = rw e (record { table = p; count = refl })

pub count_on : (s : List ℕ) {table entry k : ℕ} {x : Bool} → x ≡ false → CountAgrees s table entry x k (record { count = k; table = table; entry = entry })
unfolding count_due count_left
count_on s e = rw e (record { table = runs_none; count = refl })

-- ---- a piece that stands in own numbers

module _ (t : Vector) (y : Style) (vs : List Vertex) (c : KerbComparing) (on : done_of c.tour.phase ≡ false) where
  pub piece_agrees : (s : List ℕ) {o₀ o₁ : List ℤ} {r : Pieced} {b : ℕ} {q : Counted} → piece_numbers ≤ length o₀ → Pieces (record { step = t; folds = false }) y vs c.tour o₀ 0 o₁ r
      → Runs (agree s) four_bytes c.bodies c.at (words_of (take r.at o₁)) b (c.at + 4 * r.at) → CountAgrees s c.table c.entry r.ends (c.count + r.at / 4) q
      → PieceAgrees t y vs s c (record { tour = r.tour; count = q.count; table = q.table; entry = q.entry; bodies = b; at = c.at + 4 * r.at })
  unfolding piece_ends
  piece_agrees s {r = r} h p d e =
      let m = piece_few t y (way_of y vs) c.tour in
      let made = lays_plain refl p.made in
      let f = count_told t y vs c.tour c.count made in
      let g = p.ends in
      record {
        tour = p.tour;
        touring = p.touring;
        fewer = p.fewer on;
        table = runs_as (λ i. count_due (sym g i) (sym f i)) e.table;
        count = e.count ∙ (λ i. count_left (g i) (f i));
        bodies = runs_as (own_words m made (piece_own t y (way_of y vs) c.tour h)) d;
      }

-- ---- piece by piece

pub record KerbGoing (t : Vector) (y : Style) (vs : List Vertex) (s : List ℕ) (c₀ c : KerbComparing) : Type 0 where
  pub touring : Touring y (first_of vs) (way_of y vs) c.tour
  pub room : TourRoom t y vs c.tour c.count c.entry c.at
  pub table : Onward (agree s) four_bytes c₀.table c₀.entry (counts_ahead t y vs c₀.count c₀.tour) c.table c.entry (counts_ahead t y vs c.count c.tour)
  pub bodies : Onward (agree s) four_bytes c₀.bodies c₀.at (words_ahead t y vs c₀.tour) c.bodies c.at (words_ahead t y vs c.tour)

module _ (t : Vector) (y : Style) (vs : List Vertex) (s : List ℕ) where
  module _ {c₀ c : KerbComparing} (p : KerbGoing t y vs s c₀ c) where
    pub kerb_on : {d : KerbComparing} → done_of c.tour.phase ≡ false → PieceAgrees t y vs s c d → KerbGoing t y vs s c₀ d
    kerb_on {d} e m = record {
      touring = m.touring;
      room = room_after t y vs c.tour e m.tour p.room m.table.pos m.bodies.pos m.count;
      table = onward_as (ap (λ (k : ℕ). counts_ahead t y vs k d.tour) (sym m.count)) (onward_step (onward_as (counts_step t y vs c.tour e m.tour c.count) p.table) m.table);
      bodies = onward_step (onward_as (words_step t y vs c.tour e m.tour) p.bodies) m.bodies;
    }

    pub kerb_ends : done_of c.tour.phase ≡ true → TourAgrees t y vs s c₀ (record { table = c.table; bodies = c.bodies; end = c.at })
    kerb_ends e =
        let u = onward_done (onward_as (counts_done t y vs c.tour e c.count) p.table) runs_none in
        record { table = runs_to (sym u.pos) u; bodies = onward_done (onward_as (words_done t y vs c.tour e) p.bodies) runs_none }

-- ---- the whole: n is what the code has for the number of points

module _ (g : ℕ) (y : Style) (vs : List Vertex) {n : ℕ} (en : n ≡ length vs) where
  -- it begins with the points
  module _ (s : List ℕ) {ok : ℕ} (p : Runs (agree s) four_bytes 32 32 (spread point_words vs) ok (32 + 8 * n)) where
    whole_agrees : {t b e : ℕ} → Runs (agree s) four_bytes ok (32 + 8 * n) (counts_of (kerb_bodies g y vs)) t (32 + 8 * n + 12) → Runs (agree s) four_bytes (44 + 8 * n) (44 + 8 * n) (body_words (kerb_edges g y vs)) b e
        → Agrees s (Kerb y) g [] vs (record { table = t; bodies = b; end = e })
    unfolding kerb_table
    whole_agrees {t} q r =
        let u : Runs (agree s) four_bytes 32 32 (spread point_words vs ++ counts_of (kerb_bodies g y vs)) t (44 + 8 * n) = runs_to (omega arith) (runs_then p q) in
        record { table = rw en at u; bodies = rw en at r }

    -- without edges
    pub bare_agrees : {r : Compared} → counts_of (kerb_bodies g y vs) ≡ 0 ∷ 0 ∷ 0 ∷ [] → body_words (kerb_edges g y vs) ≡ [] → NoBodies s ok (32 + 8 * n) (44 + 8 * n) r → Agrees s (Kerb y) g [] vs r
    bare_agrees {r} e f h = whole_agrees (runs_as e h.table) (rw (h.bodies, h.end) (runs_as f runs_none))

    -- with a tour from its first point: t is the step, w the tour's start
    module _ {t : Vector} {w : Tour} (some : 0 < length vs) (wide : le_z y.radius (pos 1) ≡ false) (et : t ≡ step_of g) (ew : w ≡ tour_from (first_of vs)) where
      pub tour_room : length vs ≤ 4096 → TourRoom t y vs w 0 (32 + 8 * n) (44 + 8 * n)
      tour_room few = record {
        entry = omega (arith, en, few, ap (λ (l : List ℕ). length (spread four_bytes l)) (sym (counts-start g y vs some wide et ew)), counts_three g y vs);
        at = omega (arith, en, few, ap (λ (l : List ℕ). length (spread four_bytes l)) (sym (words-start g y vs some wide et ew)), bodies_bytes (kerb_edges g y vs), few_edges (Kerb y) g vs few);
        count = omega (arith, ap length (edges-start g y vs some wide et ew), few_edges (Kerb y) g vs few);
      }

      pub tour_agrees : {r : Compared} → TourAgrees t y vs s (record { tour = w; count = 0; table = ok; entry = 32 + 8 * n; bodies = 44 + 8 * n; at = 44 + 8 * n }) r → Agrees s (Kerb y) g [] vs r
      tour_agrees h =
          let e = counts-start g y vs some wide et ew in
          whole_agrees (runs_to (omega (arith, ap (λ (l : List ℕ). length (spread four_bytes l)) (sym e), counts_three g y vs)) (runs_as e h.table)) (runs_as (words-start g y vs some wide et ew) h.bodies)
