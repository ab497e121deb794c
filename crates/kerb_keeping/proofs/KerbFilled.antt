-- A kerb's outline filled in: point by point, and then piece by piece. Assumes nothing.
use mathlib.Core.Path.{◌≡◌, refl, sym, ap, ◌∙◌}
use mathlib.Core.Bool.{Bool, true, false}
use mathlib.Core.List.{List, [], ◌∷◌, ◌++◌, append_assoc}
use Prim.Native.Nat.{ℕ, ◌+◌, ◌*◌, ◌/◌, ◌≤◌, ◌<◌}
use native.Mathlib.Omega.{arith}
use lib.IntN.{ℤ, pos}
use lib.ListN.{length, take}
use lib.Signed.{le_z}
use Rattle.runs.specs.Runs.{spread, Runs, Room, put}
use Rattle.runs.proofs.Laws.{runs_none, runs_as, runs_to, runs_then, room_as}
use Rattle.plane.specs.Directions.{step_of}
use Rattle.plane.specs.declared.Vector.{Vector}
use Rattle.turning.specs.Edges.{edge_numbers}
use Rattle.turning.specs.declared.Edge.{Edge}
use Rattle.turning.proofs.Most.{edges_four}
use Rattle.folds.proofs.Laid.{lays_plain}
use Rattle.contacts.specs.declared.Vertex.{Vertex}
use Rattle.kerb.specs.Kerbs.{kerb_bodies, kerb_edges}
use Rattle.kerb.specs.Tours.{tour_from, piece_of, done_of, Touring}
use Rattle.kerb.specs.declared.Style.{Style}
use Rattle.kerb.specs.declared.Tour.{Tour}
use Rattle.kerb_paths.specs.Points.{first_of, way_of}
use Rattle.kerb_paths.specs.Pieces.{Pieces}
use Rattle.kerb_paths.specs.declared.pieces.Pieced.{Pieced}
use Rattle.words.specs.Words.{words_of, four_bytes}
use Rattle.outline.specs.Outlines.{point_words, counts_of, kerb_table, body_words, header_of, parts_words, outline_words}
use Rattle.outline.specs.declared.Form.TheVariants.{Kerb}
use Rattle.outline.proofs.OwnNumbers.{own_words}
use Rattle.outline.proofs.Parts.{header_bytes_lem, bodies_bytes}
use Rattle.outline.proofs.ReadBack.{few_edges}
use Rattle.keeping.specs.Fills.{Apart, Both}
use Rattle.keeping.proofs.TwoRuns.{both_as, both_of, both_one, Filled, filled_start, filled_as, filled_step, filled_done}
use Rattle.kerb_outline.specs.Remaining.{piece_numbers, count_due, count_left, counts_ahead, words_ahead, piece_ends, TourRoom}
use Rattle.kerb_outline.proofs.CountsAhead.{counts_step, words_step, piece_at, room_after, counts_done, words_done, counts-start, words-start, edges-start}
use Rattle.kerb_outline.proofs.PieceRoom.{points_bytes, counts_three, piece_few, piece_own, count_told}
use Rattle.kerb_keeping.specs.KerbFills.{CountFills, PieceFills}
use Rattle.kerb_keeping.specs.declared.filling.KerbFilling.{KerbFilling}
use Rattle.kerb_keeping.specs.declared.filling.PutCount.{PutCount}

-- ---- the edges of a tour over scratch

pub edges_counted : {l l' : List ℤ} {es : List Edge} {k : ℕ} → Runs put edge_numbers l 0 es l' k → k / 4 ≡ length es
edges_counted {es = es} p = omega (arith, p.pos, edges_four es)

-- ---- room for a piece that stands in own numbers

pub numbers_room : (t : Vector) (y : Style) (vs : List Vertex) (w : Tour) {k i j : ℕ} {o₀ o₁ : List ℤ} {a : ℕ} → done_of w.phase ≡ false → TourRoom t y vs w k i j → piece_numbers ≤ length o₀
    → Runs put edge_numbers o₀ 0 (piece_of t y (way_of y vs) w) o₁ a → Room four_bytes j (words_of (take a o₁))
numbers_room t y vs w on r h p =
    room_as (own_words (piece_few t y (way_of y vs) w) p (piece_own t y (way_of y vs) w h)) (record { fits = omega (arith, bodies_bytes (piece_of t y (way_of y vs) w), piece_at t y vs w on refl r) })

-- ---- a count

pub count_put : {l₀ l₁ : List ℕ} {at k r : ℕ} {x : Bool} → x ≡ true → Runs put four_bytes l₀ at (k ∷ []) l₁ r → CountFills l₀ at x k l₁ (record { count = 0; table = r })
unfolding count_due count_left
count_put e p = rw e (record { table = p; count = refl })

pub count_kept : {l : List ℕ} {at k : ℕ} {x : Bool} → x ≡ false → CountFills l at x k l (record { count = k; table = at })
unfolding count_due count_left
count_kept e = rw e (record { table = runs_none; count = refl })

-- ---- piece by piece

module _ (t : Vector) (y : Style) (vs : List Vertex) (f : KerbFilling) (on : done_of f.tour.phase ≡ false) where
  pub piece_filled : {l₀ l₁ l₂ : List ℕ} {o₀ o₁ : List ℤ} {r : Pieced} {b : ℕ} {q : PutCount} → piece_numbers ≤ length o₀ → Pieces (record { step = t; folds = false }) y vs f.tour o₀ 0 o₁ r
      → CountFills l₀ f.table r.ends (f.count + r.at / 4) l₁ q → Runs put four_bytes l₁ f.bodies (words_of (take r.at o₁)) l₂ b
      → PieceFills t y vs l₀ f l₂ (record { tour = r.tour; count = q.count; table = q.table; bodies = b })
  unfolding piece_ends
  piece_filled h p c d =
      let made = lays_plain refl p.made in
      let e = count_told t y vs f.tour f.count made in
      let g = p.ends in
      let u = runs_as (λ i. count_due (sym g i) (sym e i)) c.table in
      record {
        tour = p.tour;
        touring = p.touring;
        fewer = p.fewer on;
        table = u.pos;
        count = c.count ∙ (λ i. count_left (g i) (e i));
        both = both_of u (runs_as (own_words (piece_few t y (way_of y vs) f.tour) made (piece_own t y (way_of y vs) f.tour h)) d);
      }

pub record KerbFilledTo (t : Vector) (y : Style) (vs : List Vertex) (l₀ : List ℕ) (f₀ : KerbFilling) (l : List ℕ) (f : KerbFilling) : Type 0 where
  pub touring : Touring y (first_of vs) (way_of y vs) f.tour
  pub room : TourRoom t y vs f.tour f.count f.table f.bodies
  pub to : Filled l₀ f₀.table (counts_ahead t y vs f₀.count f₀.tour) f₀.bodies (words_ahead t y vs f₀.tour) l f.table (counts_ahead t y vs f.count f.tour) f.bodies (words_ahead t y vs f.tour)

module _ (t : Vector) (y : Style) (vs : List Vertex) where
  pub fill_begins : {l : List ℕ} {f : KerbFilling} → Touring y (first_of vs) (way_of y vs) f.tour → TourRoom t y vs f.tour f.count f.table f.bodies
      → Apart f.table (counts_ahead t y vs f.count f.tour) f.bodies (words_ahead t y vs f.tour) → KerbFilledTo t y vs l f l f
  fill_begins h r a = record { touring = h; room = r; to = filled_start a }

  module _ {l₀ l : List ℕ} {f₀ f : KerbFilling} (p : KerbFilledTo t y vs l₀ f₀ l f) where
    pub fill_on : {l₁ : List ℕ} {g : KerbFilling} → done_of f.tour.phase ≡ false → PieceFills t y vs l f l₁ g → KerbFilledTo t y vs l₀ f₀ l₁ g
    fill_on {g = g} e m = record {
      touring = m.touring;
      room = room_after t y vs f.tour e m.tour p.room m.table m.both.pos m.count;
      to = filled_as (ap (λ (k : ℕ). counts_ahead t y vs k g.tour) (sym m.count)) refl
          (filled_step (filled_as (counts_step t y vs f.tour e m.tour f.count) (words_step t y vs f.tour e m.tour) p.to) m.table m.both);
    }

    pub fill_ends : done_of f.tour.phase ≡ true → Both l₀ f₀.table (counts_ahead t y vs f₀.count f₀.tour) f₀.bodies (words_ahead t y vs f₀.tour) l f.bodies
    fill_ends e = filled_done (filled_as (counts_done t y vs f.tour e f.count) (words_done t y vs f.tour e) p.to) (both_of runs_none runs_none)

-- ---- the whole: header, points, and what a tour gives

module _ (g : ℕ) (y : Style) (vs : List Vertex) {n m : ℕ} (en : n ≡ length vs) (em : m ≡ length (kerb_edges g y vs)) where
  module _ {l l₁ l₂ : List ℕ} {h table : ℕ} (p : Runs put four_bytes l 0 (header_of (Kerb y) g n m) l₁ h) (q : Runs put four_bytes l₁ 32 (spread point_words vs) l₂ table) where
    front : Runs put four_bytes l 0 (header_of (Kerb y) g (length vs) (length (kerb_edges g y vs)) ++ spread point_words vs) l₂ table
    front = runs_then (runs_to (omega (arith, header_bytes_lem (Kerb y) g n m, p.pos)) (rw (en, em) at p)) q

    pub table_at : table ≡ 32 + 8 * n
    table_at = omega (arith, q.pos, points_bytes vs, en)

    whole : {l₃ : List ℕ} {e : ℕ} → Runs put four_bytes l₂ table (counts_of (kerb_bodies g y vs) ++ body_words (kerb_edges g y vs)) l₃ e → Runs put four_bytes l 0 (outline_words (Kerb y) g [] vs) l₃ e
    unfolding outline_words parts_words kerb_table
    whole r = runs_as shape (runs_then front r)
      where
        shape : header_of (Kerb y) g (length vs) (length (kerb_edges g y vs)) ++ ((spread point_words vs ++ counts_of (kerb_bodies g y vs)) ++ body_words (kerb_edges g y vs))
            ≡ (header_of (Kerb y) g (length vs) (length (kerb_edges g y vs)) ++ spread point_words vs) ++ (counts_of (kerb_bodies g y vs) ++ body_words (kerb_edges g y vs))
        shape = simp append_assoc refl

    -- without edges
    pub bare_written : {l₃ : List ℕ} {e : ℕ} → counts_of (kerb_bodies g y vs) ≡ 0 ∷ 0 ∷ 0 ∷ [] → body_words (kerb_edges g y vs) ≡ [] → Runs put four_bytes l₂ table (0 ∷ 0 ∷ 0 ∷ []) l₃ e
        → Runs put four_bytes l 0 (outline_words (Kerb y) g [] vs) l₃ e
    bare_written ec ew r = whole (runs_as (ap (λ (xs : List ℕ). xs ++ body_words (kerb_edges g y vs)) ec ∙ ap (λ (xs : List ℕ). (0 ∷ 0 ∷ 0 ∷ []) ++ xs) ew) r)

    -- with a tour from its first point: t is the step, w the tour's start
    module _ {t : Vector} {w : Tour} (some : 0 < length vs) (wide : le_z y.radius (pos 1) ≡ false) (et : t ≡ step_of g) (ew : w ≡ tour_from (first_of vs)) (few : length vs ≤ 4096) where
      counts_long : length (spread four_bytes (counts_ahead t y vs 0 w)) ≡ 12
      counts_long = ap (λ (xs : List ℕ). length (spread four_bytes xs)) (sym (counts-start g y vs some wide et ew)) ∙ counts_three g y vs

      words_long : length (spread four_bytes (words_ahead t y vs w)) ≡ 16 * length (kerb_edges g y vs)
      words_long = ap (λ (xs : List ℕ). length (spread four_bytes xs)) (sym (words-start g y vs some wide et ew)) ∙ bodies_bytes (kerb_edges g y vs)

      pub tour_room : TourRoom t y vs w 0 table (44 + 8 * n)
      tour_room = record {
        entry = omega (arith, table_at, en, few, counts_long);
        at = omega (arith, en, few, words_long, few_edges (Kerb y) g vs few);
        count = omega (arith, ap length (edges-start g y vs some wide et ew), few_edges (Kerb y) g vs few);
      }

      pub tour_apart : Apart table (counts_ahead t y vs 0 w) (44 + 8 * n) (words_ahead t y vs w)
      tour_apart = record { apart = omega (arith, table_at, counts_long); fits = omega (arith, en, few, words_long, few_edges (Kerb y) g vs few) }

      pub tour_written : {l₃ : List ℕ} {e : ℕ} → Both l₂ table (counts_ahead t y vs 0 w) (44 + 8 * n) (words_ahead t y vs w) l₃ e → Runs put four_bytes l 0 (outline_words (Kerb y) g [] vs) l₃ e
      tour_written b = whole (both_one (omega (arith, table_at, counts_three g y vs)) (both_as (counts-start g y vs some wide et ew) (words-start g y vs some wide et ew) b))
