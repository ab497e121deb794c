-- Edges laid into room one run after another, folded or not. Assumes nothing.
use mathlib.Core.Path.{◌≡◌, refl, sym, ap, ◌∙◌}
use mathlib.Core.Bool.{Bool, false}
use mathlib.Core.List.{List, [], ◌∷◌, ◌++◌}
use Prim.Native.Nat.{ℕ, ◌+◌, ◌≤◌}
use native.Mathlib.Omega.{arith}
use lib.IntN.{ℤ}
use lib.ListN.{length, length-append}
use Rattle.runs.specs.Runs.{spread, over, Runs, Room, put}
use Rattle.runs.proofs.Laws.{spread-append, runs_none, runs_then}
use Rattle.plane.specs.declared.Point.{Point}
use Rattle.plane.specs.declared.Vector.{Vector}
use Rattle.plane.specs.Vectors.{Near}
use Rattle.turning.specs.Edges.{edge_numbers, edge_of}
use Rattle.turning.specs.Bounds.{AllReach}
use Rattle.leaps.specs.Bows.{bow_edges}
use Rattle.folds.specs.Folds.{fold_edges, fold_numbers, SoundFold, SoundFolds}
use Rattle.folds.specs.Pens.{Lays}
use Rattle.turning.specs.declared.Edge.{Edge}
use Rattle.folds.specs.declared.Fold.{Fold}
use Rattle.folds.specs.declared.Fold.TheVariants.{Straight, Bent}
use Rattle.turning.proofs.Reach.{edge_reach}
use Rattle.leaps.proofs.Bows.{edges_size, bow_length}

-- ---- how many

-- what stands folded is no longer than its edges
fold_short : (t : Vector) (f : Fold) → SoundFold f → length (fold_numbers f) ≤ length (spread edge_numbers (fold_edges t f))
unfolding SoundFold fold_numbers fold_edges edge_numbers
fold_short t (Straight e) h = omega (arith, edges_size (e ∷ []))
fold_short t (Bent b) h =
    omega (arith, h.least, edges_size (bow_edges b.turns t b.centre b.radius b.to b.direction b.from), bow_length b.turns t b.centre b.radius b.to b.direction b.from)

pub folds_short : (t : Vector) (fs : List Fold) → SoundFolds fs → length (spread fold_numbers fs) ≤ length (spread edge_numbers (spread (fold_edges t) fs))
unfolding SoundFolds spread
folds_short t [] h = omega arith
folds_short t (f ∷ fs) h =
    omega (
      arith,
      fold_short t f h.0,
      folds_short t fs h.1,
      length-append (fold_numbers f) (spread fold_numbers fs),
      ap length (spread-append edge_numbers (fold_edges t f) (spread (fold_edges t) fs)),
      length-append (spread edge_numbers (fold_edges t f)) (spread edge_numbers (spread (fold_edges t) fs)),
    )

-- ---- edges that stand as they are

straights : List Edge → List Fold
straights [] = []
straights (e ∷ es) = Straight e ∷ straights es

straight_sound : (es : List Edge) → AllReach es → SoundFolds (straights es)
unfolding AllReach SoundFolds SoundFold straights
straight_sound [] h = tt
straight_sound (e ∷ es) h = (h.0, straight_sound es h.1)

straight_edges : (t : Vector) (es : List Edge) → es ≡ spread (fold_edges t) (straights es)
unfolding spread fold_edges straights
straight_edges t [] = refl
straight_edges t (e ∷ es) = ap (λ rest. e ∷ rest) (straight_edges t es)

straight_numbers : (es : List Edge) → spread fold_numbers (straights es) ≡ spread edge_numbers es
unfolding spread fold_numbers straights
straight_numbers [] = refl
straight_numbers (e ∷ es) = ap (λ rest. edge_numbers e ++ rest) (straight_numbers es)

-- ---- runs of edges, and edges laid

pub all_sound_append : (fs gs : List Fold) → SoundFolds fs → SoundFolds gs → SoundFolds (fs ++ gs)
unfolding SoundFolds
all_sound_append [] gs h k = k
all_sound_append (f ∷ fs) gs h k = (h.0, all_sound_append fs gs h.1 k)

module _ {t : Vector} {b : Bool} where
  -- edge by edge
  pub lays_runs : {l₀ l₁ : List ℤ} {a₀ a₁ : ℕ} {es : List Edge} → AllReach es → Runs put edge_numbers l₀ a₀ es l₁ a₁ → Lays t b l₀ a₀ es l₁ a₁
  lays_runs {l₀} {l₁} {a₀} {a₁} {es} h p = record {
    held = straights es;
    sound = straight_sound es h;
    edges = straight_edges t es;
    plain = λ _. straight_numbers es;
    made = record { out = p.out ∙ ap (over put l₀ a₀) (sym (straight_numbers es)); pos = p.pos ∙ ap (λ l. a₀ + length l) (sym (straight_numbers es)) };
  }

  pub lays_edge : {l₀ l₁ : List ℤ} {a₀ a₁ : ℕ} {p q : Point} → Near p → Near q → Runs put edge_numbers l₀ a₀ (edge_of p q) l₁ a₁ → Lays t b l₀ a₀ (edge_of p q) l₁ a₁
  lays_edge {p = p} {q = q} h k r = lays_runs (edge_reach p q h k) r

  pub lays_none : {l : List ℤ} {a : ℕ} → Lays t b l a [] l a
  unfolding SoundFolds spread
  lays_none = record { held = []; sound = tt; edges = refl; plain = λ _. refl; made = runs_none }

  -- the same edges by another name, or to the same end by another name
  pub lays_as : {l l₁ : List ℤ} {a a₁ : ℕ} {es fs : List Edge} → fs ≡ es → Lays t b l a es l₁ a₁ → Lays t b l a fs l₁ a₁
  lays_as e p = rw e p

  pub lays_to : {l l₁ : List ℤ} {a a₁ b₁ : ℕ} {es : List Edge} → b₁ ≡ a₁ → Lays t b l a es l₁ a₁ → Lays t b l a es l₁ b₁
  lays_to e p = rw e p

  -- edges after others
  pub lays_then : {l₀ l₁ l₂ : List ℤ} {a₀ a₁ a₂ : ℕ} {es fs : List Edge} → Lays t b l₀ a₀ es l₁ a₁ → Lays t b l₁ a₁ fs l₂ a₂ → Lays t b l₀ a₀ (es ++ fs) l₂ a₂
  lays_then {es = es} {fs = fs} p q = record {
    held = p.held ++ q.held;
    sound = all_sound_append p.held q.held p.sound q.sound;
    edges = ap (λ xs. xs ++ fs) p.edges ∙ ap (λ xs. spread (fold_edges t) p.held ++ xs) q.edges ∙ sym (spread-append (fold_edges t) p.held q.held);
    plain = λ e. spread-append fold_numbers p.held q.held ∙ ap (λ xs. xs ++ spread fold_numbers q.held) (p.plain e) ∙ ap (λ xs. spread edge_numbers es ++ xs) (q.plain e) ∙ sym (spread-append edge_numbers es fs);
    made = runs_then p.made q.made;
  }

  -- past them there is room for others
  pub room_past : {l l₁ : List ℤ} {a a₁ : ℕ} {es : List Edge} (fs : List Edge) → Lays t b l a es l₁ a₁ → Room edge_numbers a (es ++ fs) → Room edge_numbers a₁ fs
  room_past {es = es} fs p r = record {
    fits = omega (
      arith,
      r.fits,
      p.made.pos,
      folds_short t p.held p.sound,
      ap (λ (xs : List Edge). length (spread edge_numbers xs)) p.edges,
      ap length (spread-append edge_numbers es fs),
      length-append (spread edge_numbers es) (spread edge_numbers fs),
    );
  }

-- where nothing may be folded
pub lays_plain : {t : Vector} {b : Bool} {l₀ l₁ : List ℤ} {a₀ a₁ : ℕ} {es : List Edge} → b ≡ false → Lays t b l₀ a₀ es l₁ a₁ → Runs put edge_numbers l₀ a₀ es l₁ a₁
lays_plain {l₀ = l₀} {a₀ = a₀} e p = record { out = p.made.out ∙ ap (over put l₀ a₀) (p.plain e); pos = p.made.pos ∙ ap (λ l. a₀ + length l) (p.plain e) }
