-- What a tour has yet to give of a kerb's outline, piece by piece: the counts of its bodies, and their words. Assumes nothing.
use mathlib.Core.Path.{◌≡◌, refl, sym, ap, ◌∙◌}
use mathlib.Core.Bool.{Bool, true, false, true≢false}
use mathlib.Core.List.{List, [], ◌∷◌, ◌++◌}
use Prim.Native.Nat.{ℕ, ◌+◌, ◌*◌, ◌^◌, ◌≤◌, ◌<◌}
use native.Mathlib.Nat.{zero-add}
use native.Mathlib.Omega.{arith}
use lib.Dec.{ltb}
use lib.IntN.{pos}
use lib.ListN.{length, drop, length-append}
use lib.Signed.{le_z}
use Rattle.runs.specs.Runs.{spread}
use Rattle.runs.proofs.Laws.{spread-append}
use Rattle.plane.specs.Directions.{step_of}
use Rattle.plane.specs.declared.Vector.{Vector}
use Rattle.turning.specs.declared.Edge.{Edge}
use Rattle.contacts.specs.declared.Vertex.{Vertex}
use Rattle.kerb.specs.Kerbs.{kerb_bodies, kerb_edges}
use Rattle.kerb.specs.Tours.{next_in, piece_of, tour_after, tour_at_corners, sided_of, met_of, in_phase, bodies_in, rest_bodies, rest_of, done_of, ends_in, ends_of, onto, tour_from}
use Rattle.kerb.specs.declared.Style.{Style}
use Rattle.kerb.specs.declared.Phase.{Phase}
use Rattle.kerb.specs.declared.Phase.TheVariants.{Sides, Corners, Caps, Done}
use Rattle.kerb.specs.declared.Tour.{Tour}
use Rattle.kerb.proofs.TourLaw.{tour_step, rest_step, bodies_thin, bodies_none}
use Rattle.kerb.proofs.TourKept.{rest_done}
use Rattle.kerb_paths.specs.Points.{first_of, way_of}
use Rattle.kerb_paths.proofs.PointsAhead.{kerb_bodies_lem, kerb_tour, kerb_thin, kerb_empty}
use Rattle.words.specs.Words.{four_bytes}
use Rattle.outline.specs.Outlines.{counts_of, body_words}
use Rattle.outline.proofs.Parts.{body-none, body-append, bodies_bytes}
use Rattle.kerb_outline.specs.Remaining.{counts_from, count_due, count_left, counts_ahead, words_ahead, piece_count, piece_ends, TourRoom}

-- ---- counts

pub counts_zero : (bs : List (List Edge)) → counts_of bs ≡ counts_from 0 bs
unfolding counts_of counts_from
counts_zero [] = refl
counts_zero (b ∷ bs) = ap (λ (k : ℕ). k ∷ counts_of bs) (sym (zero-add (length b)))

-- bodies are left where a piece is not its body's last
some_left : (t : Vector) (y : Style) (v : Vertex) (qs bs : List Vertex) (w : Tour) (p : Phase) (more : Bool) → done_of p ≡ false → ends_in p more ≡ false → 0 < length (rest_bodies t y v qs (next_in p v bs w))
unfolding done_of ends_in rest_bodies next_in bodies_in tour_at_corners sided_of met_of in_phase
some_left t y v qs [] w Sides more d e = omega arith
some_left t y v qs (b ∷ bs) w Sides more d e = omega arith
some_left t y v qs [] w Corners more d e = omega arith
some_left t y v qs (b ∷ bs) w Corners more d e = omega arith
some_left t y v qs bs w Caps more d e = absurd (true≢false e)
some_left t y v qs bs w Done more d e = absurd (true≢false d)

onto-counts : (x : Bool) (k : ℕ) (es : List Edge) (bodies : List (List Edge)) → (x ≡ false → 0 < length bodies)
    → counts_from k (onto x es bodies) ≡ count_due x (k + length es) ++ counts_from (count_left x (k + length es)) bodies
unfolding counts_from onto count_due count_left
onto-counts true k es bodies h = ap (λ (ns : List ℕ). (k + length es) ∷ ns) (counts_zero bodies)
onto-counts false k es [] h = absurd (omega (arith, h refl))
onto-counts false k es (b ∷ bs) h = let e : k + length (es ++ b) ≡ k + length es + length b = omega (arith, length-append es b) in ap (λ (n : ℕ). n ∷ counts_of bs) e

-- ---- piece by piece

module _ (t : Vector) (y : Style) (vs : List Vertex) (w : Tour) (d : done_of w.phase ≡ false) {u : Tour} (eu : u ≡ tour_after (first_of vs) (way_of y vs) w) where
  pub counts_step : (k : ℕ) → counts_ahead t y vs k w ≡ count_due (piece_ends y vs w) (piece_count t y vs k w) ++ counts_ahead t y vs (count_left (piece_ends y vs w) (piece_count t y vs k w)) u
  unfolding counts_ahead piece_ends piece_count piece_of tour_after ends_of
  counts_step k =
      rw eu
      (ap (counts_from k) (tour_step t y (first_of vs) (way_of y vs) w d)
      ∙ onto-counts (ends_of (way_of y vs) w) k (piece_of t y (way_of y vs) w) _ (some_left t y (first_of vs) (way_of y vs) (drop w.next (way_of y vs)) w w.phase (ltb w.next (length (way_of y vs))) d))

  pub words_step : words_ahead t y vs w ≡ body_words (piece_of t y (way_of y vs) w) ++ words_ahead t y vs u
  unfolding words_ahead
  words_step = rw eu (ap body_words (rest_step t y (first_of vs) (way_of y vs) w d) ∙ body-append (piece_of t y (way_of y vs) w) (rest_of t y (first_of vs) (way_of y vs) (tour_after (first_of vs) (way_of y vs) w)))

  edges_step : length (rest_of t y (first_of vs) (way_of y vs) w) ≡ length (piece_of t y (way_of y vs) w) + length (rest_of t y (first_of vs) (way_of y vs) u)
  edges_step = rw eu (ap length (rest_step t y (first_of vs) (way_of y vs) w d) ∙ length-append (piece_of t y (way_of y vs) w) (rest_of t y (first_of vs) (way_of y vs) (tour_after (first_of vs) (way_of y vs) w)))

  left_most : (x : Bool) (k : ℕ) → count_left x k ≤ k
  unfolding count_left
  left_most true k = omega arith
  left_most false k = omega arith

  bytes_both : (xs ys : List ℕ) → length (spread four_bytes (xs ++ ys)) ≡ length (spread four_bytes xs) + length (spread four_bytes ys)
  bytes_both xs ys = ap length (spread-append four_bytes xs ys) ∙ length-append (spread four_bytes xs) (spread four_bytes ys)

  module _ {k entry at : ℕ} (r : TourRoom t y vs w k entry at) where
    -- room for the piece's words, and a count that fits
    pub piece_at : at + 16 * length (piece_of t y (way_of y vs) w) < 2 ^ 64
    piece_at = omega (
      arith,
      r.at,
      ap (λ (l : List ℕ). length (spread four_bytes l)) words_step,
      bytes_both (body_words (piece_of t y (way_of y vs) w)) (words_ahead t y vs u),
      bodies_bytes (piece_of t y (way_of y vs) w),
    )

    pub piece_small : piece_count t y vs k w < 2 ^ 32
    unfolding piece_count
    piece_small = omega (arith, r.count, edges_step)

    -- and for what follows it
    pub room_after : {entry' at' k' : ℕ} → entry' ≡ entry + length (spread four_bytes (count_due (piece_ends y vs w) (piece_count t y vs k w)))
        → at' ≡ at + length (spread four_bytes (body_words (piece_of t y (way_of y vs) w))) → k' ≡ count_left (piece_ends y vs w) (piece_count t y vs k w) → TourRoom t y vs u k' entry' at'
    unfolding piece_count
    room_after ee ea ek = rw ek (record {
      entry = omega (
        arith,
        ee,
        r.entry,
        ap (λ (l : List ℕ). length (spread four_bytes l)) (counts_step k),
        bytes_both (count_due (piece_ends y vs w) (piece_count t y vs k w)) (counts_ahead t y vs (count_left (piece_ends y vs w) (piece_count t y vs k w)) u),
      );
      at = omega (
        arith,
        ea,
        r.at,
        ap (λ (l : List ℕ). length (spread four_bytes l)) words_step,
        bytes_both (body_words (piece_of t y (way_of y vs) w)) (words_ahead t y vs u),
      );
      count = omega (arith, r.count, edges_step, left_most (piece_ends y vs w) (k + length (piece_of t y (way_of y vs) w)));
    })

-- ---- where every piece is done

rest_none : (t : Vector) (y : Style) (v : Vertex) (qs : List Vertex) (w : Tour) (p : Phase) (bs : List Vertex) → done_of p ≡ true → bodies_in p t y v qs bs w ≡ []
unfolding done_of bodies_in
rest_none t y v qs w Sides bs e = absurd (true≢false (sym e))
rest_none t y v qs w Corners bs e = absurd (true≢false (sym e))
rest_none t y v qs w Caps bs e = absurd (true≢false (sym e))
rest_none t y v qs w Done bs e = refl

module _ (t : Vector) (y : Style) (vs : List Vertex) (w : Tour) (d : done_of w.phase ≡ true) where
  pub counts_done : (k : ℕ) → counts_ahead t y vs k w ≡ []
  unfolding counts_ahead counts_from rest_bodies
  counts_done k = ap (counts_from k) (rest_none t y (first_of vs) (way_of y vs) w w.phase (drop w.next (way_of y vs)) d)

  pub words_done : words_ahead t y vs w ≡ []
  unfolding words_ahead
  words_done = ap body_words (rest_done t y (first_of vs) (way_of y vs) w d) ∙ body-none

-- ---- a kerb's own bodies

module _ (g : ℕ) (y : Style) (vs : List Vertex) where
  module _ {t : Vector} {w : Tour} (some : 0 < length vs) (e : le_z y.radius (pos 1) ≡ false) (et : t ≡ step_of g) (ew : w ≡ tour_from (first_of vs)) where
    pub counts-start : counts_of (kerb_bodies g y vs) ≡ counts_ahead t y vs 0 w
    unfolding counts_ahead
    counts-start = rw ew (ap counts_of (kerb_bodies_lem g y vs some e et) ∙ counts_zero _)

    pub words-start : body_words (kerb_edges g y vs) ≡ words_ahead t y vs w
    unfolding words_ahead
    words-start = rw ew (ap body_words (kerb_tour g y vs some e et))

    pub edges-start : kerb_edges g y vs ≡ rest_of t y (first_of vs) (way_of y vs) w
    edges-start = rw ew (kerb_tour g y vs some e et)

  module _ (thin : le_z y.radius (pos 1) ≡ true) where
    pub counts_thin : counts_of (kerb_bodies g y vs) ≡ 0 ∷ 0 ∷ 0 ∷ []
    unfolding counts_of
    counts_thin = ap counts_of (bodies_thin g y vs thin)

    pub words_thin : body_words (kerb_edges g y vs) ≡ []
    words_thin = ap body_words (kerb_thin g y vs thin) ∙ body-none

pub counts-none : (g : ℕ) (y : Style) (vs : List Vertex) → length vs ≡ 0 → counts_of (kerb_bodies g y vs) ≡ 0 ∷ 0 ∷ 0 ∷ []
unfolding counts_of
counts-none g y [] h = ap counts_of (bodies_none g y)
counts-none g y (v ∷ vs) h = absurd (omega arith)

pub words-none : (g : ℕ) (y : Style) (vs : List Vertex) → length vs ≡ 0 → body_words (kerb_edges g y vs) ≡ []
words-none g y vs h = ap body_words (kerb_empty g y vs h) ∙ body-none
