-- An outline over lent bytes: zeros byte by byte, and what the two rows before it make of it. Assumes nothing.
use Rattle.std.specs.Prelude.{Ok, Err, min}
use Rattle.std.proofs.lemmas.List.{append_assoc, set_past, drop-drop, replicate-append-replicate}
use Rattle.std.proofs.lemmas.Bool.{cases_lt}
use mathlib.Core.Logic.{⊎_elim}
use mathlib.Core.Path.{◌≡◌, refl, sym, ap, ◌∙◌}
use mathlib.Core.Bool.{true, false}
use mathlib.Core.List.{List, [], ◌∷◌, ◌++◌}
use Prim.Native.Nat.{ℕ, suc, ◌+◌, ◌-◌, ◌≤◌, ◌<◌}
use native.Mathlib.Nat.{zero-add}
use native.Mathlib.Omega.{arith}
use lib.ListN.{length, take, drop, replicate, length-append, length-replicate, length-drop}
use lib.Seq.{sets-eq, length-sets, length-take-le}
use borrow.Rule.Slice.PartMut.{put_mid}
use Rattle.runs.specs.Runs.{spread, over, Runs, put}
use Rattle.runs.proofs.Laws.{over-append}
use Rattle.runs.proofs.Written.{over_whole, over_sets}
use Rattle.contacts.specs.declared.Vertex.{Vertex}
use Rattle.outline.specs.Layout.{length_of}
use Rattle.words.specs.Words.{four_bytes, bytes_of}
use Rattle.outline.specs.Outlines.{edges_for, outline_words, outline_bytes}
use Rattle.replies.specs.Replies.{empty_row}
use Rattle.replies.specs.Refusals.{reply_of}
use Rattle.keeping.specs.Keeping.{write_rows}
use Rattle.keeping.specs.Rewriting.{Writes, Rewrites}
use Rattle.replies.specs.declared.Refusal.TheVariants.{NoRoom, WithoutEdges}
use Rattle.outline.proofs.ReadBack.{outline_length}
use Rattle.outline.specs.declared.Form.{Form}
use Rattle.replies.proofs.Rows.{first_holds, empty_passes, empty_not, room_short, room_enough, refused_written, done_written}

-- ---- zeros

-- past the end nothing is written
over_past : (l : List ℕ) (i : ℕ) (vs : List ℕ) → length l ≤ i → over put l i vs ≡ l
unfolding over
over_past l i [] h = refl
over_past l i (v ∷ vs) h = ap (λ (m : List ℕ). over put m (suc i) vs) (set_past l i v h) ∙ over_past l (suc i) vs (omega arith)

-- nothing to clear
pub clear_none : (l : List ℕ) (a b : ℕ) → min b (length l) ≤ a → l ≡ over put l a (replicate (b - a) 0)
unfolding over
clear_none l a b h = ⊎_elim (λ k. let e : b - a ≡ 0 = omega arith in rw e) (λ k. sym (over_past l a (replicate (b - a) 0) (omega arith))) (cases_lt b (length l))

-- zeros up to the end, and past it nothing
pub clear_some : (l : List ℕ) (a b : ℕ) {e : ℕ} {zeros : List ℕ} → e ≡ min b (length l) → a < e → zeros ≡ replicate (length (take (e - a) (drop a l))) 0 → put_mid a (e - a) l zeros ≡ over put l a (replicate (b - a) 0)
unfolding over
clear_some l a b {e} {zeros} h k z =
    let rest = replicate {A = ℕ} (b - e) 0 in
    let n : length (take (e - a) (drop a l)) ≡ e - a = length-take-le (e - a) (drop a l) (omega (arith, length-drop a l)) in
    let m : length zeros ≡ e - a = ap length z ∙ length-replicate _ 0 ∙ n in
    let i : a + (e - a) ≡ a + length zeros = omega arith in
    let put_first : put_mid a (e - a) l zeros ≡ over put l a zeros = sym (append_assoc (take a l) zeros (drop (e - a) (drop a l))) ∙ ap (λ (m : List ℕ). take a l ++ zeros ++ m) (drop-drop (e - a) a l ∙ ap (λ (x : ℕ). drop x l) i) ∙ sym (over_sets l a zeros ∙ sets-eq zeros l a (omega arith)) in
    let long : length (over put l a zeros) ≡ length l = ap length (over_sets l a zeros) ∙ length-sets l a zeros in
    let past : over put (over put l a zeros) (a + length zeros) rest ≡ over put l a zeros =
    ⊎_elim (λ j. let q : b - e ≡ 0 = omega arith in rw q) (λ j. over_past (over put l a zeros) (a + length zeros) rest (omega arith)) (cases_lt b (length l)) in
    let both : zeros ++ rest ≡ replicate (b - a) 0 =
    let q : (e - a) + (b - e) ≡ b - a = omega arith in
    rw (z, n, ← q) (replicate-append-replicate (e - a) (b - e) 0) in
    put_first ∙ sym past ∙ over-append put l a zeros rest ∙ ap (over put l a) both

-- ---- written

pub needed_is : (f : Form) (g : ℕ) (ps : List ℕ) (vs : List Vertex) {n m needed : ℕ} → n ≡ length vs → m ≡ length (edges_for f g vs) → needed ≡ length_of f n m → needed ≡ length (outline_bytes f g ps vs)
needed_is f g ps vs en em e = e ∙ (λ i. length_of f (en i) (em i)) ∙ sym (outline_length f g ps vs)

pub write_done : (f : Form) (g : ℕ) (ps : List ℕ) (vs : List Vertex) (s : List ℕ) (old : ℕ) {s₁ s₂ : List ℕ} {end : ℕ} → Runs put four_bytes s 0 (outline_words f g ps vs) s₁ end
    → s₂ ≡ over put s₁ end (replicate (old - end) 0) → length (outline_bytes f g ps vs) ≤ length s → old ≤ length s → Writes s (outline_bytes f g ps vs) old end s₂
unfolding outline_bytes bytes_of
write_done f g ps vs s old {s₁} {s₂} {end} p q h o =
    let new = spread four_bytes (outline_words f g ps vs) in
    let e : end ≡ length new = p.pos ∙ zero-add (length new) in
    let zeros = replicate {A = ℕ} (old - length new) 0 in
    let n : length (new ++ zeros) ≤ length s = omega (arith, length-append new zeros, length-replicate {A = ℕ} (old - length new) 0) in
    let w : s₂ ≡ over put s 0 (new ++ zeros) =
    q ∙ ap (λ (l : List ℕ). over put l end (replicate (old - end) 0)) p.out
    ∙ ap (λ (k : ℕ). over put (over put s 0 new) end (replicate (old - k) 0)) e
    ∙ ap (λ (k : ℕ). over put (over put s 0 new) k zeros) p.pos
    ∙ over-append put s 0 new zeros in
    record { long = e; bytes = w ∙ over_whole s (new ++ zeros) n ∙ done_written end (new ++ zeros) s refl }

-- ---- the rows before it

module _ (f : Form) (g : ℕ) (ps : List ℕ) (vs : List Vertex) (s : List ℕ) (old : ℕ) {n m : ℕ} (en : n ≡ length vs) (em : m ≡ length (edges_for f g vs)) where
  pub rewrite_empty : (empty_row n m).0 ≡ true → Rewrites s f g ps vs old (Err (WithoutEdges n)) s
  unfolding write_rows empty_row
  rewrite_empty h =
      let k : (empty_row (length vs) (length (edges_for f g vs))).0 ≡ true = rw (en, em) at h in
      record { reply = ap (λ (x : ℕ). (18, x)) en ∙ sym (first_holds _ _ _ k); bytes = refused_written (WithoutEdges n) _ s refl }

  module _ (h : (empty_row n m).0 ≡ false) where
    some : 0 < length vs → 0 < length (edges_for f g vs)
    some = rw (en, em) at (empty_not n m h)

    pub rewrite_short : {needed : ℕ} → needed ≡ length (outline_bytes f g ps vs) → length s < needed → Rewrites s f g ps vs old (Err (NoRoom needed)) s
    unfolding write_rows
    rewrite_short e l =
        let k = length (outline_bytes f g ps vs) in
        record {
          reply = ap (λ (x : ℕ). (5, x)) e ∙ sym (empty_passes (length vs) (length (edges_for f g vs)) _ (0, k) some ∙ room_short k (length s) k (0, k) (omega arith));
          bytes = refused_written (NoRoom _) _ s refl;
        }

    pub rewrite_done : {s₁ : List ℕ} {end : ℕ} → length (outline_bytes f g ps vs) ≤ length s → Writes s (outline_bytes f g ps vs) old end s₁ → Rewrites s f g ps vs old (Ok end) s₁
    unfolding write_rows
    rewrite_done l w =
        let k = length (outline_bytes f g ps vs) in
        record {
          reply = ap (λ (x : ℕ). (0, x)) w.long ∙ sym (empty_passes (length vs) (length (edges_for f g vs)) _ (0, k) some ∙ room_enough k (length s) k (0, k) l);
          bytes = w.bytes;
        }
