-- A piece that stands in own numbers on its way, and a point's words: their room, and their counts. Assumes nothing.
use mathlib.Core.Path.{◌≡◌, refl, sym, ap}
use mathlib.Core.Bool.{false}
use mathlib.Core.List.{List, [], ◌∷◌, ◌++◌}
use Prim.Native.Nat.{ℕ, ◌+◌, ◌*◌, ◌/◌, ◌^◌, ◌≤◌, ◌<◌}
use native.Mathlib.Numerals.{add-one}
use native.Mathlib.Omega.{arith}
use lib.IntN.{ℤ}
use lib.ListN.{length, get_or, drop, drop_of_length-le}
use lib.Seq.{drop-cons}
use Rattle.runs.specs.Runs.{spread, Runs, put}
use Rattle.plane.specs.declared.Vector.{Vector}
use Rattle.turning.specs.Edges.{edge_numbers}
use Rattle.turning.specs.Bounds.{Most}
use Rattle.turning.proofs.Most.{edges_four}
use Rattle.contacts.specs.declared.Vertex.{Vertex}
use Rattle.kerb.specs.Kerbs.{kerb_bodies}
use Rattle.kerb.specs.Tours.{piece_of, done_of}
use Rattle.kerb.specs.declared.Style.{Style}
use Rattle.kerb.specs.declared.Tour.{Tour}
use Rattle.kerb.proofs.KerbMost.{piece_most}
use Rattle.kerb_paths.specs.Points.{way_of}
use Rattle.paths.specs.Paths.{none}
use Rattle.words.specs.Words.{four_bytes}
use Rattle.words.proofs.NumberRuns.{four_each}
use Rattle.outline.specs.Outlines.{point_words, counts_of}
use Rattle.outline.proofs.OwnNumbers.{own_count}
use Rattle.kerb_outline.specs.Remaining.{piece_numbers, piece_count, TourRoom}
use Rattle.kerb_outline.proofs.CountsAhead.{piece_at, piece_small}

-- ---- the points

pub points_next : (vs : List Vertex) (k : ℕ) {v : Vertex} → k < length vs → v ≡ get_or vs k none → spread point_words (drop k vs) ≡ point_words v ++ spread point_words (drop (k + 1) vs)
unfolding spread
points_next vs k h e = rw (e, add-one, drop-cons vs k none h)

pub points_end : (vs : List Vertex) (k : ℕ) → length vs ≤ k → spread point_words (drop k vs) ≡ []
unfolding spread
points_end vs k h = rw (drop_of_length-le vs h)

points_two : (vs : List Vertex) → length (spread point_words vs) ≡ 2 * length vs
unfolding spread point_words
points_two [] = refl
points_two (v ∷ vs) = omega (arith, points_two vs)

pub points_bytes : (vs : List Vertex) → length (spread four_bytes (spread point_words vs)) ≡ 8 * length vs
points_bytes vs = omega (arith, four_each (spread point_words vs), points_two vs)

pub counts_three : (g : ℕ) (y : Style) (vs : List Vertex) → length (spread four_bytes (counts_of (kerb_bodies g y vs))) ≡ 12
unfolding counts_of kerb_bodies
counts_three g y vs = four_each (counts_of (kerb_bodies g y vs))

-- ---- a piece of a numbers, where the tour w has counted k edges and goes on at i and j

pub piece_few : (t : Vector) (y : Style) (qs : List Vertex) (w : Tour) → Most 9227 (piece_of t y qs w)
piece_few t y qs w = record { most = omega (arith, piece_most t y qs w) }

pub piece_own : (t : Vector) (y : Style) (qs : List Vertex) (w : Tour) {k : ℕ} → piece_numbers ≤ k → 4 * length (piece_of t y qs w) ≤ k
piece_own t y qs w h = omega (arith, piece_most t y qs w, h)

module _ (t : Vector) (y : Style) (vs : List Vertex) (w : Tour) (on : done_of w.phase ≡ false) {k i j : ℕ} (room : TourRoom t y vs w k i j) where
  pub entry_fits : i + 4 < 2 ^ 64
  entry_fits = omega (arith, room.entry)

  module _ {o₀ o₁ : List ℤ} {a : ℕ} (p : Runs put edge_numbers o₀ 0 (piece_of t y (way_of y vs) w) o₁ a) where
    pub words_fit : j + 4 * a < 2 ^ 64
    words_fit = omega (arith, p.pos, edges_four (piece_of t y (way_of y vs) w), piece_at t y vs w on refl room)

    pub count_fits : k + a / 4 < 2 ^ 32
    unfolding piece_count
    count_fits = omega (arith, own_count (piece_few t y (way_of y vs) w) p, piece_small t y vs w on refl room)

pub count_told : (t : Vector) (y : Style) (vs : List Vertex) (w : Tour) (k : ℕ) {o₀ o₁ : List ℤ} {a : ℕ} → Runs put edge_numbers o₀ 0 (piece_of t y (way_of y vs) w) o₁ a → k + a / 4 ≡ piece_count t y vs k w
unfolding piece_count
count_told t y vs w k p = ap (λ (n : ℕ). k + n) (sym (own_count (piece_few t y (way_of y vs) w) p))
