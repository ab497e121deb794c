-- An edge as four stores into lent numbers, and a point as two. Assumes nothing.
use mathlib.Core.Path.{◌≡◌, refl, sym, ap, ◌∙◌}
use mathlib.Core.Bool.{true, false}
use mathlib.Core.List.{List, [], ◌∷◌}
use Prim.Native.Nat.{ℕ, zero, suc, ◌+◌, ◌^◌, ◌≤◌, ◌<◌}
use native.Mathlib.Numerals.{add-one, add-two, add-three}
use native.Mathlib.Omega.{arith}
use lib.ListN.{length, set}
use lib.IntN.{ℤ}
use mir.Syntax.{w32, w64}
use mir.Val.{SFits, to_z, of_z}
use mir.Facts.{to_z-of_z}
use Rattle.whole.specs.Sizes.{Size}
use Rattle.whole.proofs.Sizes.{size_fits}
use Rattle.runs.specs.Runs.{Runs, Room, spread, over, put}
use Rattle.plane.specs.Vectors.{Near, same_point}
use Rattle.plane.proofs.Products.{bits, back, near_fits}
use Rattle.plane.specs.declared.Point.{Point}
use Rattle.turning.specs.Edges.{edge_numbers, point_numbers, edge_of}
use Rattle.turning.specs.Bounds.{Reach}
use Rattle.turning.specs.declared.Edge.{Edge}

-- ---- no edge, or one

pub edge_none : (p q : Point) → same_point p q ≡ true → edge_of p q ≡ []
unfolding edge_of
edge_none p q e = rw (e, edge_of)

pub edge_some : (p q : Point) → same_point p q ≡ false → edge_of p q ≡ record { a = p; b = q } ∷ []
unfolding edge_of
edge_some p q e = rw (e, edge_of)

-- ---- past the room

set_past : (l : List ℤ) (i : ℕ) (z : ℤ) → length l ≤ i → set l i z ≡ l
set_past [] i z h = refl
set_past (x ∷ l) zero z h = absurd (omega arith)
set_past (x ∷ l) (suc i) z h = ap (λ m. x ∷ m) (set_past l i z (omega arith))

over_past : (l : List ℤ) (i : ℕ) (zs : List ℤ) → length l ≤ i → over put l i zs ≡ l
unfolding over
over_past l i [] h = refl
over_past l i (z ∷ zs) h = ap (λ m. over put m (suc i) zs) (set_past l i z h) ∙ over_past l (suc i) zs (omega arith)

-- edges are counted there, and change nothing
pub edges_past : {l : List ℤ} {at : ℕ} (es : List Edge) → length l ≤ at → Runs put edge_numbers l at es l (at + length (spread edge_numbers es))
edges_past {l} {at} es h = record { out = sym (over_past l at (spread edge_numbers es) h); pos = refl }

pub edge_past : {l : List ℤ} {at : ℕ} (e : Edge) → length l ≤ at → Runs put edge_numbers l at (e ∷ []) l (at + 4)
unfolding spread edge_numbers
edge_past e h = edges_past (e ∷ []) h

-- ---- one edge is four numbers

pub room_one : {at : ℕ} (e : Edge) → Room edge_numbers at (e ∷ []) → at + 4 < 2 ^ 64
unfolding spread edge_numbers
room_one e h = h.fits

pub one_room : {at : ℕ} (e : Edge) → at + 4 < 2 ^ 64 → Room edge_numbers at (e ∷ [])
unfolding spread edge_numbers
one_room e h = record { fits = h }

-- a coordinate as an i32, by its bits
abbrev pub number : ℤ → ℤ
number r = to_z w32 (of_z w32 r)

pub narrowed : {r z : ℤ} → Size (2 ^ 29) z → r ≡ bits z → number r ≡ z
narrowed {r} {z} h e =
    let f : r ≡ z = e ∙ back (near_fits h) in
    rw f (to_z-of_z (size_fits (2 ^ 29) w32 _ h tt))

pub edge_stored : {l₀ l₁ l₂ l₃ l₄ : List ℤ} {at : ℕ} (e : Edge) {x y z w : ℤ} → Reach e → x ≡ bits e.a.x → y ≡ bits e.a.y → z ≡ bits e.b.x → w ≡ bits e.b.y
    → l₁ ≡ set l₀ at (number x) → l₂ ≡ set l₁ (at + 1) (number y) → l₃ ≡ set l₂ (at + 2) (number z) → l₄ ≡ set l₃ (at + 3) (number w)
    → Runs put edge_numbers l₀ at (e ∷ []) l₄ (at + 4)
unfolding spread over edge_numbers
edge_stored {at = at} e h ex ey ez ew p q r s = record {
  out = cc (add-one at, add-two at, add-three at, narrowed h.a.x ex, narrowed h.a.y ey, narrowed h.b.x ez, narrowed h.b.y ew);
  pos = refl;
}

-- ---- one point is two

pub point_stored : {l₀ l₁ l₂ : List ℤ} {at : ℕ} (p : Point) {x y : ℤ} → Near p → x ≡ bits p.x → y ≡ bits p.y
    → l₁ ≡ set l₀ at (number x) → l₂ ≡ set l₁ (at + 1) (number y) → Runs put point_numbers l₀ at (p ∷ []) l₂ (at + 2)
unfolding spread over point_numbers
point_stored {at = at} p h ex ey q r = record { out = cc (add-one at, narrowed h.x ex, narrowed h.y ey); pos = refl }

pub point_past : {l₀ l₁ : List ℤ} {at n : ℕ} {p : Point} → Runs put point_numbers l₀ at (p ∷ []) l₁ n → n ≡ at + 2
unfolding spread point_numbers
point_past h = h.pos

-- ---- numbers read

-- a number of 32 bits, as the code has widened it
pub widened : {z : ℤ} → SFits w32 z → SFits w64 z
widened h = record { sfits = omega (arith, h.sfits) }
