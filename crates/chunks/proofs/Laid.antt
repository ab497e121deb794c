-- Bytes laid over a chunk from a place on: what stands there afterwards, and what stands elsewhere. Assumes nothing.
use mathlib.Core.Path.{◌≡◌, refl, sym, ap, ◌∙◌}
use mathlib.Core.Logic.{◌⊎◌, inl, inr, ⊎_elim}
use mathlib.Core.List.{List, [], ◌∷◌, ◌++◌, append_assoc}
use Prim.Native.Nat.{ℕ, zero, suc, ◌+◌, ◌-◌, ◌%◌, ◌^◌, ◌≤◌, ◌<◌}
use native.Mathlib.Nat.{add-zero}
use native.Mathlib.Numerals.{add-one}
use native.Mathlib.Omega.{arith}
use lib.ListN.{length, get_or, take, drop, set, length-set, length-drop}
use lib.Seq.{length-sets, sets-eq, drop-drop, get_or-set_same, get_or-set_other, get_or-drop, take-suc, take_all, length-take-le, ext_get_or}
use Rattle.runs.specs.Runs.{spread, over, Runs, put}
use Rattle.words.specs.Words.{four_bytes, word_from}
use Rattle.runs.proofs.Laws.{over-append}
use Rattle.runs.proofs.Written.{over_sets}
use Rattle.words.proofs.Bytes.{four_back}

pub over-length : (l : List ℕ) (a : ℕ) (vs : List ℕ) → length (over put l a vs) ≡ length l
over-length l a vs = ap length (over_sets l a vs) ∙ length-sets l a vs

pub over_out : (l : List ℕ) (a : ℕ) (vs : List ℕ) (j : ℕ) → (j < a) ⊎ (a + length vs ≤ j) → get_or (over put l a vs) j 0 ≡ get_or l j 0
unfolding over
over_out l a [] j h = refl
over_out l a (v ∷ vs) j h =
    over_out (set l a v) (suc a) vs j (⊎_elim (λ k. inl (omega arith)) (λ k. inr (omega arith)) h)
    ∙ get_or-set_other l a j v 0 (⊎_elim (λ k e. omega arith) (λ k e. omega arith) h)

pub over_in : (l : List ℕ) (a : ℕ) (vs : List ℕ) (k : ℕ) → a + length vs ≤ length l → k < length vs → get_or (over put l a vs) (a + k) 0 ≡ get_or vs k 0
unfolding over
over_in l a [] k h m = absurd (omega arith)
over_in l a (v ∷ vs) zero h m =
    over_out (set l a v) (suc a) vs (a + 0) (inl (omega arith)) ∙ ap (λ j. get_or (set l a v) j 0) (add-zero a) ∙ get_or-set_same l a v 0 (omega arith)
over_in l a (v ∷ vs) (suc k) h m =
    let e : a + suc k ≡ suc a + k = omega arith in
    let r : suc a + length vs ≤ length (set l a v) = omega (arith, length-set l a v) in
    ap (λ j. get_or (over put (set l a v) (suc a) vs) j 0) e ∙ over_in (set l a v) (suc a) vs k r (omega arith)

-- the same, at a place given by itself
pub over_in_at : (l : List ℕ) (a : ℕ) (vs : List ℕ) (j k : ℕ) → j ≡ a + k → a + length vs ≤ length l → k < length vs → get_or (over put l a vs) j 0 ≡ get_or vs k 0
over_in_at l a vs j k e h m = ap (λ i. get_or (over put l a vs) i 0) e ∙ over_in l a vs k h m

-- ---- a loop that lays one byte a turn

pub record Laying (l : List ℕ) (a : ℕ) (vs : List ℕ) (j : ℕ) (s : List ℕ) : Type 0 where
  pub out : s ≡ over put l a (take j vs)

pub laying_start : (l : List ℕ) (a : ℕ) (vs : List ℕ) → Laying l a vs 0 l
unfolding over
laying_start l a vs = record { out = refl }

module _ {l : List ℕ} {a : ℕ} {vs : List ℕ} {j : ℕ} {s : List ℕ} (h : Laying l a vs j s) where
  pub laying_more : j < length vs → Laying l a vs (j + 1) (set s (a + j) (get_or vs j 0))
  unfolding over
  laying_more m = record {
    out = rw (h.out, add-one j)
        (ap (λ k. set (over put l a (take j vs)) (a + k) (get_or vs j 0)) (sym (length-take-le j vs (omega arith)))
        ∙ over-append put l a (take j vs) (get_or vs j 0 ∷ [])
        ∙ ap (over put l a) (sym (take-suc vs j 0 m)));
  }

  pub laying_all : length vs ≤ j → s ≡ over put l a vs
  laying_all m = h.out ∙ ap (over put l a) (take_all j vs m)

-- as the part of a list that a slice is, and as a paste
pub laid_part : (l : List ℕ) (a k : ℕ) {vs ws : List ℕ} → vs ≡ ws → k ≡ length ws → a + k ≤ length l → take a l ++ (vs ++ drop k (drop a l)) ≡ over put l a ws
laid_part l a k {vs} {ws} e f h =
    ap (λ q. take a l ++ (q ++ drop k (drop a l))) e
    ∙ ap (λ q. take a l ++ (ws ++ q)) (drop-drop k a l ∙ ap (λ j. drop (a + j) l) f)
    ∙ sym (append_assoc (take a l) ws (drop (a + length ws) l))
    ∙ sym (over_sets l a ws ∙ sets-eq ws l a (omega arith))

pub laid_paste : (l src : List ℕ) (a k n : ℕ) → k ≡ n → length (take n src) ≡ n → a + n ≤ length l → take a l ++ take k src ++ drop (a + k) l ≡ over put l a (take n src)
laid_paste l src a k n e f h =
    rw e (ap (λ j. take a l ++ take n src ++ drop (a + j) l) (sym f) ∙ sym (over_sets l a (take n src) ∙ sets-eq (take n src) l a (omega arith)))

pub part_length_lem : (l : List ℕ) (from n : ℕ) → from + n ≤ length l → length (take n (drop from l)) ≡ n
part_length_lem l from n h = length-take-le n (drop from l) (omega (arith, length-drop from l))

pub over_long : (l : List ℕ) (a : ℕ) (vs : List ℕ) {s : List ℕ} → s ≡ over put l a vs → length s ≡ length l
over_long l a vs e = ap length e ∙ over-length l a vs

-- ---- words, and what stands further on

pub word_out : (l : List ℕ) (a : ℕ) (vs : List ℕ) (p : ℕ) → (p + 4 ≤ a) ⊎ (a + length vs ≤ p) → word_from (over put l a vs) p ≡ word_from l p
unfolding word_from
word_out l a vs p h =
    let at : (k : ℕ) → k < 4 → get_or (over put l a vs) (p + k) 0 ≡ get_or l (p + k) 0 = λ k d. over_out l a vs (p + k) (⊎_elim (λ t. inl (omega arith)) (λ t. inr (omega arith)) h) in
    let here : get_or (over put l a vs) p 0 ≡ get_or l p 0 = over_out l a vs p (⊎_elim (λ t. inl (omega arith)) (λ t. inr (omega arith)) h) in
    rw (here, at 1 (omega arith), at 2 (omega arith), at 3 (omega arith))

pub drop_out : (l : List ℕ) (a : ℕ) (vs : List ℕ) (j : ℕ) → a + length vs ≤ j → drop j (over put l a vs) ≡ drop j l
drop_out l a vs j h =
    let e : length (drop j (over put l a vs)) ≡ length (drop j l) = length-drop j (over put l a vs) ∙ ap (λ n. n - j) (over-length l a vs) ∙ sym (length-drop j l) in
    ext_get_or 0 (drop j (over put l a vs)) (drop j l) e λ k d. get_or-drop j (over put l a vs) k 0 ∙ over_out l a vs (j + k) (inr (omega arith)) ∙ sym (get_or-drop j l k 0)

-- a word written is read
pub word_in : (l : List ℕ) (a w : ℕ) → a + 4 ≤ length l → w < 2 ^ 32 → word_from (over put l a (four_bytes w)) a ≡ w
unfolding word_from four_bytes
word_in l a w h m =
    let at : (k : ℕ) → k < 4 → get_or (over put l a (four_bytes w)) (a + k) 0 ≡ get_or (four_bytes w) k 0 = λ k d. over_in l a (four_bytes w) k h d in
    let here : get_or (over put l a (four_bytes w)) a 0 ≡ w % 256 = over_in_at l a (four_bytes w) a 0 (sym (add-zero a)) h (omega arith) in
    rw (here, at 1 (omega arith), at 2 (omega arith), at 3 (omega arith)) (four_back w m)

-- a word that was written, as its run says
pub word_put : {s t : List ℕ} {at end : ℕ} (w : ℕ) → Runs put four_bytes s at (w ∷ []) t end → t ≡ over put s at (four_bytes w)
unfolding spread four_bytes
word_put w p = p.out
