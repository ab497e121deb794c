-- Own numbers read back: what stands in them is told by the numbers alone. Assumes nothing.
use mathlib.Core.Path.{◌≡◌, refl, sym, ap, ◌∙◌}
use mathlib.Core.Bool.{false}
use mathlib.Core.List.{List, [], ◌∷◌, ◌++◌}
use Prim.Native.Nat.{ℕ, ◌+◌, ◌*◌, ◌^◌, ◌≤◌, ◌<◌}
use native.Mathlib.Omega.{arith}
use lib.IntN.{ℤ, pos, nat_abs}
use lib.ListN.{length, get_or, take, drop, length-append, length-drop}
use lib.Seq.{get_or-drop, drop-append_seam, length-take-le}
use lib.Dec.{T}
use lib.Signed.{non_neg}
use mir.Syntax.{w32, w64}
use mir.Val.{SFits, to_z, of_z}
use mir.Facts.{to_z-of_z}
use Rattle.whole.specs.Sizes.{Size}
use Rattle.runs.specs.Runs.{spread, over, put}
use Rattle.runs.proofs.Laws.{spread-append}
use Rattle.plane.proofs.Products.{bits, back}
use Rattle.plane.specs.declared.Point.{Point}
use Rattle.plane.specs.declared.Vector.{Vector}
use Rattle.turning.specs.Edges.{edge_numbers}
use Rattle.leaps.specs.Bows.{bow_edges}
use Rattle.folds.specs.Folds.{fold_edges, mark, fold_numbers, SoundFold, SoundFolds, Holds, Edgewise, RoomFor, Stands, Finds, StandsBent, FindsBent, point_in, direction_in, size_of, Sizes, Unfolds}
use Rattle.folds.specs.declared.Pen.{Pen}
use Rattle.folds.specs.declared.Bow.{Bow}
use Rattle.folds.specs.declared.Fold.{Fold}
use Rattle.folds.specs.declared.Fold.TheVariants.{Straight, Bent}
use Rattle.leaps.proofs.Bows.{bow_length, edges_size}

-- ---- the same numbers are the same folds

-- no coordinate is the mark
mark_far : {z : ℤ} → Size (2 ^ 29) z → z ≡ mark → ⊥
mark_far h e = omega (arith, ap nat_abs e, h.size)

-- the number at k of those that come first
abbrev nth : ℕ → List ℤ → ℤ
nth k l = get_or l k (pos 0)

pub same_fold : (f g : Fold) → SoundFold f → SoundFold g → (r s : List ℤ) → fold_numbers f ++ r ≡ fold_numbers g ++ s → f ≡ g
unfolding SoundFold fold_numbers edge_numbers
same_fold (Straight e) (Straight k) h i r s p =
    λ j. Straight (record { a = record { x = ap (nth 0) p j; y = ap (nth 1) p j }; b = record { x = ap (nth 2) p j; y = ap (nth 3) p j } })
same_fold (Straight e) (Bent b) h i r s p = absurd (mark_far h.a.x (ap (nth 0) p))
same_fold (Bent b) (Straight e) h i r s p = absurd (mark_far i.a.x (sym (ap (nth 0) p)))
same_fold (Bent b) (Bent d) h i r s p =
    λ j. Bent (record {
      turns = nat_abs (ap (nth 1) p j);
      direction = record { x = ap (nth 2) p j; y = ap (nth 3) p j };
      centre = record { x = ap (nth 4) p j; y = ap (nth 5) p j };
      radius = ap (nth 6) p j;
      from = record { x = ap (nth 7) p j; y = ap (nth 8) p j };
      to = record { x = ap (nth 9) p j; y = ap (nth 10) p j };
    })

same_rest : {f g : Fold} {r s : List ℤ} → f ≡ g → fold_numbers f ++ r ≡ fold_numbers g ++ s → r ≡ s
same_rest {f} {g} {r} {s} e p =
    let q : fold_numbers g ++ r ≡ fold_numbers g ++ s = rw e at p in
    sym (drop-append_seam (fold_numbers g) r) ∙ ap (drop (length (fold_numbers g))) q ∙ drop-append_seam (fold_numbers g) s

-- a fold has at least four numbers
pub width_some : (f : Fold) → 4 ≤ length (fold_numbers f)
unfolding fold_numbers edge_numbers
width_some (Straight e) = omega arith
width_some (Bent b) = omega arith

pub folds_some : (f : Fold) (fs : List Fold) → 4 ≤ length (spread fold_numbers (f ∷ fs))
unfolding spread
folds_some f fs = omega (arith, width_some f, length-append (fold_numbers f) (spread fold_numbers fs))

pub same_folds : (fs gs : List Fold) → SoundFolds fs → SoundFolds gs → spread fold_numbers fs ≡ spread fold_numbers gs → fs ≡ gs
unfolding SoundFolds spread
same_folds [] [] h i p = refl
same_folds [] (g ∷ gs) h i p = absurd (omega (arith, folds_some g gs, ap length p))
same_folds (f ∷ fs) [] h i p = absurd (omega (arith, folds_some f fs, ap length p))
same_folds (f ∷ fs) (g ∷ gs) h i p =
    let e : f ≡ g = same_fold f g h.0 i.0 (spread fold_numbers fs) (spread fold_numbers gs) p in
    let d : fs ≡ gs = same_folds fs gs h.1 i.1 (same_rest e p) in
    λ j. e j ∷ d j

-- ---- how many numbers the edges come to

bow_size : (n : ℕ) (t : Vector) (c : Point) (r : ℤ) (q : Point) (d : Vector) (p : Point) → length (spread edge_numbers (bow_edges n t c r q d p)) ≡ 4 * n + 4
bow_size n t c r q d p = omega (arith, edges_size (bow_edges n t c r q d p), bow_length n t c r q d p)

pub fold_size : (t : Vector) (f : Fold) → length (spread edge_numbers (fold_edges t f)) ≡ size_of f
unfolding fold_edges size_of
fold_size t (Straight e) = edges_size (e ∷ [])
fold_size t (Bent b) = bow_size b.turns t b.centre b.radius b.to b.direction b.from

unfoldable pub sizes_of : List Fold → ℕ
sizes_of [] = 0
sizes_of (f ∷ fs) = size_of f + sizes_of fs

pub folds_size : (t : Vector) (fs : List Fold) → length (spread edge_numbers (spread (fold_edges t) fs)) ≡ sizes_of fs
unfolding spread sizes_of
folds_size t [] = refl
folds_size t (f ∷ fs) =
    omega (
      arith,
      fold_size t f,
      folds_size t fs,
      ap length (spread-append edge_numbers (fold_edges t f) (spread (fold_edges t) fs)),
      length-append (spread edge_numbers (fold_edges t f)) (spread edge_numbers (spread (fold_edges t) fs)),
    )

pub size_most : (f : Fold) → SoundFold f → size_of f ≤ 6144
unfolding SoundFold size_of
size_most (Straight e) h = omega arith
size_most (Bent b) h = omega (arith, h.most)

pub sizes_most : (fs : List Fold) → SoundFolds fs → sizes_of fs ≤ 1536 * length (spread fold_numbers fs)
unfolding SoundFolds spread sizes_of
sizes_most [] h = omega arith
sizes_most (f ∷ fs) h = omega (arith, size_most f h.0, sizes_most fs h.1, width_some f, length-append (fold_numbers f) (spread fold_numbers fs))

-- ---- numbers read

pub point_read : (l : List ℤ) (j : ℕ) {x y : ℤ} → SFits w64 x → SFits w64 y → x ≡ get_or l j (pos 0) → y ≡ get_or l (j + 1) (pos 0) → record { x = bits x; y = bits y } ≡ point_in l j
unfolding point_in
point_read l j h k e f = λ i. record { x = (back h ∙ e) i; y = (back k ∙ f) i }

pub direction_read : (l : List ℤ) (j : ℕ) {x y : ℤ} → SFits w64 x → SFits w64 y → x ≡ get_or l j (pos 0) → y ≡ get_or l (j + 1) (pos 0) → record { x = bits x; y = bits y } ≡ direction_in l j
unfolding direction_in
direction_read l j h k e f = λ i. record { x = (back h ∙ e) i; y = (back k ∙ f) i }

-- ---- what stands at a position

-- the number at k of it
stood : (l : List ℤ) (j k : ℕ) {xs : List ℤ} → drop j l ≡ xs → get_or l (j + k) (pos 0) ≡ get_or xs k (pos 0)
stood l j k e = sym (get_or-drop j l k (pos 0)) ∙ ap (nth k) e

-- at j itself
stood_first : (l : List ℤ) (j : ℕ) {xs : List ℤ} → drop j l ≡ xs → get_or l j (pos 0) ≡ get_or xs 0 (pos 0)
stood_first l j e = ap (λ i. get_or l i (pos 0)) (omega arith) ∙ stood l j 0 e

stood_length : (l : List ℤ) (j : ℕ) (xs r : List ℤ) → drop j l ≡ xs ++ r → 0 < length xs → j + length xs ≤ length l
stood_length l j xs r e h = omega (arith, ap length e, length-append xs r, length-drop j l)

pub stands_length : {l : List ℤ} {j : ℕ} → Stands l j → j + 4 ≤ length l
stands_length {l} {j} h = let w = width_some h.fold in omega (arith, w, stood_length l j (fold_numbers h.fold) h.rest h.numbers (omega (arith, w)))

pub bent_length : {l : List ℤ} {j : ℕ} → StandsBent l j → j + 11 ≤ length l
unfolding fold_numbers
bent_length {l} {j} h = stood_length l j (fold_numbers (Bent h.bow)) h.rest h.numbers (omega arith)

-- an arc, told by its mark
bent_by : {l : List ℤ} {j : ℕ} (f : Fold) → SoundFold f → (r : List ℤ) → drop j l ≡ fold_numbers f ++ r → get_or l j (pos 0) ≡ mark → StandsBent l j
unfolding SoundFold fold_numbers edge_numbers
bent_by {l} {j} (Straight e) h r p m = absurd (mark_far h.a.x (sym (stood_first l j p) ∙ m))
bent_by {l} {j} (Bent b) h r p m = record { bow = b; sound = h; rest = r; numbers = p }

-- the mark, told by its bits
pub mark_told : {z : ℤ} → SFits w32 z → of_z w32 z ≡ 2147483648 → z ≡ mark
mark_told h e = sym (to_z-of_z {w = w32} h) ∙ ap (to_z w32) e

pub mark_not : {z : ℤ} → (of_z w32 z ≡ 2147483648 → ⊥) → z ≡ mark → ⊥
mark_not h e = h (ap (of_z w32) e)

pub stands_bent : {l : List ℤ} {j : ℕ} → Stands l j → get_or l j (pos 0) ≡ mark → StandsBent l j
stands_bent h m = bent_by h.fold h.sound h.rest h.numbers m

module _ {l : List ℤ} {j : ℕ} where
  bent_is : {b : Bow} → FindsBent l j b → get_or l j (pos 0) ≡ mark → (g : Fold) → SoundFold g → (r : List ℤ) → drop j l ≡ fold_numbers g ++ r → Bent b ≡ g
  unfolding SoundFold fold_numbers edge_numbers
  bent_is q m (Straight e) h r p = absurd (mark_far h.a.x (sym (stood_first l j p) ∙ m))
  bent_is q m (Bent d) h r p = ap Bent (q.reads d h r p)

  pub bent_reads : {b : Bow} → FindsBent l j b → get_or l j (pos 0) ≡ mark → Finds l j (Bent b)
  bent_reads q m = record { reads = bent_is q m }

module _ (l : List ℤ) (j : ℕ) where
  straight_is : {a b : Point} → (get_or l j (pos 0) ≡ mark → ⊥) → a ≡ point_in l j → b ≡ point_in l (j + 2) → (g : Fold) → SoundFold g → (r : List ℤ) → drop j l ≡ fold_numbers g ++ r → Straight (record { a = a; b = b }) ≡ g
  unfolding SoundFold fold_numbers edge_numbers point_in
  straight_is m e f (Straight k) h r p =
      let at3 : get_or l (j + 2 + 1) (pos 0) ≡ k.b.y = ap (λ i. get_or l i (pos 0)) (omega arith) ∙ stood l j 3 p in
      let u : point_in l j ≡ k.a = λ i. record { x = stood_first l j p i; y = stood l j 1 p i } in
      let v : point_in l (j + 2) ≡ k.b = λ i. record { x = stood l j 2 p i; y = at3 i } in
      λ i. Straight (record { a = (e ∙ u) i; b = (f ∙ v) i })
  straight_is m e f (Bent d) h r p = absurd (m (stood_first l j p))

  pub straight_reads : {a b : Point} → (get_or l j (pos 0) ≡ mark → ⊥) → a ≡ point_in l j → b ≡ point_in l (j + 2) → Finds l j (Straight (record { a = a; b = b }))
  straight_reads m e f = record { reads = straight_is m e f }

-- how many turns it has, as they stand there in 32 bits
bent_turns : {l : List ℤ} {j : ℕ} (h : StandsBent l j) → get_or l (j + 1) (pos 0) ≡ pos h.bow.turns
unfolding fold_numbers
bent_turns {l} {j} h = stood l j 1 h.numbers

small_turns : {n : ℕ} {z : ℤ} → n ≤ 1535 → z ≡ pos n → to_z w32 (of_z w32 z) ≡ pos n
small_turns {n} h e = rw e (to_z-of_z {w = w32} (record { sfits = omega arith }))

pub turns_fit : {l : List ℤ} {j : ℕ} → StandsBent l j → T (non_neg (to_z w32 (of_z w32 (get_or l (j + 1) (pos 0))))) × (nat_abs (to_z w32 (of_z w32 (get_or l (j + 1) (pos 0)))) ≤ 1535)
turns_fit h = rw (small_turns h.sound.most (bent_turns h)) (tt, h.sound.most)

pub turns_told : {l : List ℤ} {j : ℕ} → StandsBent l j → nat_abs (to_z w32 (of_z w32 (get_or l (j + 1) (pos 0)))) ≡ nat_abs (get_or l (j + 1) (pos 0))
turns_told h = ap nat_abs (small_turns h.sound.most (bent_turns h) ∙ sym (bent_turns h))

module _ (l : List ℤ) (j : ℕ) where
  -- the parts of an arc, read one by one
  pub parts_read : {d : Vector} {c p q : Point} {n : ℕ} {r : ℤ} → n ≡ nat_abs (get_or l (j + 1) (pos 0)) → d ≡ direction_in l (j + 2) → c ≡ point_in l (j + 4) → r ≡ get_or l (j + 6) (pos 0) → p ≡ point_in l (j + 7) → q ≡ point_in l (j + 9)
      → FindsBent l j (record { turns = n; direction = d; centre = c; radius = r; from = p; to = q })
  unfolding fold_numbers point_in direction_in
  parts_read en ed ec er ep eq = record {
    reads = λ g h s e.
        let after : (k i : ℕ) → i ≡ j + k → get_or l i (pos 0) ≡ get_or (fold_numbers (Bent g) ++ s) k (pos 0) = λ k i o. ap (λ a. get_or l a (pos 0)) o ∙ stood l j k e in
        let d : direction_in l (j + 2) ≡ g.direction = λ i. record { x = stood l j 2 e i; y = after 3 (j + 2 + 1) (omega arith) i } in
        let c : point_in l (j + 4) ≡ g.centre = λ i. record { x = stood l j 4 e i; y = after 5 (j + 4 + 1) (omega arith) i } in
        let p : point_in l (j + 7) ≡ g.from = λ i. record { x = stood l j 7 e i; y = after 8 (j + 7 + 1) (omega arith) i } in
        let q : point_in l (j + 9) ≡ g.to = λ i. record { x = stood l j 9 e i; y = after 10 (j + 9 + 1) (omega arith) i } in
        λ i. record { turns = (en ∙ ap nat_abs (stood l j 1 e)) i; direction = (ed ∙ d) i; centre = (ec ∙ c) i; radius = (er ∙ stood l j 6 e) i; from = (ep ∙ p) i; to = (eq ∙ q) i };
  }

-- ---- what a pen that folds nothing has left

module _ {pen : Pen} {l : List ℤ} {m : ℕ} (h : Holds l m) (g : Edgewise pen l m) (e : pen.folds ≡ false) where
  edgewise_long : (fs : List Fold) → SoundFolds fs → take m l ≡ spread fold_numbers fs → m ≡ length (spread edge_numbers (spread (fold_edges pen.step) fs))
  edgewise_long fs k i = omega (arith, ap length i, ap length (g.edgewise e fs k i), length-take-le m l h.whole)

  pub edgewise_sizes : Sizes l m m
  edgewise_sizes = record { size = λ t fs k i. edgewise_long fs k i ∙ folds_size pen.step fs ∙ sym (folds_size t fs) }

  pub edgewise_fits : {n : ℕ} → RoomFor pen.step l m n → m ≤ n
  edgewise_fits r = omega (arith, edgewise_long h.held h.sound h.numbers, r.enough h.held h.sound h.numbers)

  pub edgewise_unfolds : {l₀ l₁ : List ℤ} → l₁ ≡ over put l₀ 0 (take m l) → Unfolds pen.step l m l₀ l₁ m
  edgewise_unfolds {l₀} f = record {
    unfolds = λ fs k i. record {
      out = f ∙ ap (over put l₀ 0) (i ∙ g.edgewise e fs k i);
      pos = omega (arith, edgewise_long fs k i);
    };
  }

-- where the numbers of the edges are known, so is the room that they need
pub sizes_room : {l : List ℤ} {m n k : ℕ} (t : Vector) → Sizes l m n → n ≤ k → RoomFor t l m k
sizes_room t s h = record { enough = λ fs f i. omega (arith, s.size t fs f i) }
