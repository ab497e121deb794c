-- No note: each body has its count, and its edges where the counts before it put them. Assumes nothing.
use mathlib.Core.Path.{◌≡◌, refl, sym, ap, ◌∙◌}
use mathlib.Core.Bool.{Bool, true, false, not}
use mathlib.Core.List.{List, [], ◌∷◌, ◌++◌}
use Prim.Native.Nat.{ℕ, suc, ◌+◌, ◌*◌}
use native.Mathlib.Omega.{arith}
use borrow.Author.Tests.{eqb-true, eq-eqb}
use lib.Dec.{eqb}
use lib.ListN.{length, take, drop, length-append}
use lib.Seq.{take-length, take-add, drop-drop}
use Rattle.runs.specs.Runs.{spread}
use Rattle.runs.proofs.Laws.{spread-append}
use Rattle.turning.specs.declared.Edge.{Edge}
use Rattle.paths.specs.Paths.{joined}
use Rattle.words.specs.Words.{four_bytes, bytes_of}
use Rattle.words.proofs.Bytes.{bytes-length}
use Rattle.outline.specs.Outlines.{body_words}
use Rattle.outline.specs.Stores.{same_bytes, edges_in, edges_before}
use Rattle.outline.proofs.Parts.{body-none, body-append}
use Rattle.outline.proofs.ReadBack.{numbers_length, same_list, same_is}
use Rattle.differences.specs.Differences.{old_at, edges_differ, count_number, edges_number, difference_of, differences_from, total_number, note_of, notes_from}

-- ---- notes

abbrev pub AllNone : List ℕ → Type 0
AllNone [] = Unit {0}
AllNone (d ∷ ds) = (d ≡ 0) × AllNone ds

pub notes_none : (i : ℕ) (ds : List ℕ) → notes_from i ds ≡ [] → AllNone ds
unfolding notes_from note_of
notes_none i [] h = tt
notes_none i (d ∷ ds) h = go (eqb d 0) refl h (notes_none (suc i) ds)
  where
    go : (t : Bool) → eqb d 0 ≡ t → (elim t as (λ _. List ℕ) [ true ↦ [] | false ↦ i ∷ d ∷ [] ]) ++ notes_from (suc i) ds ≡ [] → (notes_from (suc i) ds ≡ [] → AllNone ds) → (d ≡ 0) × AllNone ds
    go true e q r = (eqb-true d 0 e, r q)
    go false e q r = absurd (omega (arith, ap length q))

pub none_notes : (i : ℕ) (ds : List ℕ) → AllNone ds → notes_from i ds ≡ []
unfolding notes_from note_of
none_notes i [] h = refl
none_notes i (d ∷ ds) h = rw (eq-eqb d 0 h.0, note_of) (none_notes (suc i) ds h.1)

-- ---- one body

module _ (s : List ℕ) (at old : ℕ) (es : List Edge) where
  due : List ℕ
  due = bytes_of (body_words (take old es))

  long : length (bytes_of (body_words es)) ≡ 16 * length es
  long = omega (arith, bytes-length (body_words es), numbers_length es)

  all : old ≡ length es → due ≡ bytes_of (body_words es)
  unfolding due
  all z = ap (λ (k : ℕ). bytes_of (body_words (take k es))) z ∙ ap (λ (fs : List Edge). bytes_of (body_words fs)) (take-length es)

  pub body_same : difference_of s at old es ≡ 0 → (old ≡ length es) × (take (16 * length es) (drop at s) ≡ bytes_of (body_words es))
  unfolding due difference_of count_number edges_differ edges_number
  body_same h = go (eqb old (length es)) (same_bytes (take (length due) (drop at s)) due) refl refl h
    where
      go : (t u : Bool) → eqb old (length es) ≡ t → same_bytes (take (length due) (drop at s)) due ≡ u → (elim t as (λ _. ℕ) [ true ↦ 0 | false ↦ 1 ]) + edges_number (not u) ≡ 0
          → (old ≡ length es) × (take (16 * length es) (drop at s) ≡ bytes_of (body_words es))
      go true true e f q =
          let z : old ≡ length es = eqb-true old (length es) e in
          let d = all z in
          let k : 16 * length es ≡ length due = sym (ap length d ∙ long) in
          (z, ap (λ (j : ℕ). take j (drop at s)) k ∙ same_is (take (length due) (drop at s)) due f ∙ d)
      go true false e f q = absurd (omega (arith, q))
      go false u e f q = absurd (omega (arith, q))

  pub same_body : old ≡ length es → take (16 * length es) (drop at s) ≡ bytes_of (body_words es) → difference_of s at old es ≡ 0
  unfolding due difference_of count_number edges_differ edges_number
  same_body z h =
      let b = bytes_of (body_words es) in
      let f : same_bytes (take (length due) (drop at s)) due ≡ true =
      ap (λ (l : List ℕ). same_bytes (take (length l) (drop at s)) l) (all z) ∙ ap (λ (k : ℕ). same_bytes (take k (drop at s)) b) long ∙ ap (λ (l : List ℕ). same_bytes l b) h ∙ same_list b in
      rw (eq-eqb old (length es) z, count_number, f) refl

-- ---- all bodies

abbrev pub Same : List ℕ → ℕ → List (List Edge) → Type 0
Same s i [] = Unit {0}
Same s i (b ∷ bs) = (edges_in s i ≡ length b) × (take (16 * length b) (drop (old_at s i) s) ≡ bytes_of (body_words b)) × Same s (suc i) bs

pub bodies_same : (s : List ℕ) (i : ℕ) (bs : List (List Edge)) (x : ℕ) → AllNone (differences_from s i bs ++ (x ∷ [])) → Same s i bs × (x ≡ 0)
unfolding differences_from
bodies_same s i [] x h = (tt, h.0)
bodies_same s i (b ∷ bs) x h =
    let d = body_same s (old_at s i) (edges_in s i) b h.0 in
    let r = bodies_same s (suc i) bs x h.1 in
    ((d.0, d.1, r.0), r.1)

pub same_bodies : (s : List ℕ) (i : ℕ) (bs : List (List Edge)) (x : ℕ) → Same s i bs → x ≡ 0 → AllNone (differences_from s i bs ++ (x ∷ []))
unfolding differences_from
same_bodies s i [] x h e = (e, tt)
same_bodies s i (b ∷ bs) x h e = (same_body s (old_at s i) (edges_in s i) b h.0 h.1, same_bodies s (suc i) bs x h.2 e)

-- their edges then stand one after another
old_next : (s : List ℕ) (i : ℕ) → old_at s (suc i) ≡ old_at s i + 16 * edges_in s i
unfolding old_at edges_before
old_next s i = omega arith

spread-none : spread four_bytes [] ≡ []
unfolding spread
spread-none = refl

pub bodies_again : (s : List ℕ) (i : ℕ) (bs : List (List Edge)) → Same s i bs → take (16 * length (joined bs)) (drop (old_at s i) s) ≡ bytes_of (body_words (joined bs))
unfolding joined bytes_of
bodies_again s i [] h = sym (ap (spread four_bytes) body-none ∙ spread-none)
bodies_again s i (b ∷ bs) h =
    let at = old_at s i in
    let a = 16 * length b in
    let c = 16 * length (joined bs) in
    let k : 16 * length (b ++ joined bs) ≡ a + c = omega (arith, length-append b (joined bs)) in
    let m : at + a ≡ old_at s (suc i) = sym (old_next s i ∙ ap (λ (n : ℕ). at + 16 * n) h.0) in
    ap (λ (n : ℕ). take n (drop at s)) k
    ∙ take-add a c (drop at s)
    ∙ (λ j. h.1 j ++ take c (drop-drop a at s j))
    ∙ ap (λ (n : ℕ). spread four_bytes (body_words b) ++ take c (drop n s)) m
    ∙ ap (λ (l : List ℕ). spread four_bytes (body_words b) ++ l) (bodies_again s (suc i) bs h.2)
    ∙ sym (ap (spread four_bytes) (body-append b (joined bs)) ∙ spread-append four_bytes (body_words b) (body_words (joined bs)))

-- ---- the total

pub total_same : (old m : ℕ) → total_number old m ≡ 0 → old ≡ m
unfolding total_number
total_same old m h = go (eqb old m) refl h
  where
    go : (t : Bool) → eqb old m ≡ t → ◌≡◌ {A = ℕ} (elim t [ true ↦ 0 | false ↦ 4 ]) 0 → old ≡ m
    go true e q = eqb-true old m e
    go false e q = absurd (omega (arith, q))

pub same_total : (old m : ℕ) → old ≡ m → total_number old m ≡ 0
unfolding total_number
same_total old m e = rw (eq-eqb old m e, total_number)
