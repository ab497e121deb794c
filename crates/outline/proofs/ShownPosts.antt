-- The posts of a store into lent numbers, one by one. Assumes nothing.
use mathlib.Core.Path.{◌≡◌, refl, sym, ap, ◌∙◌}
use mathlib.Core.List.{List, [], ◌∷◌, ◌++◌}
use Prim.Native.Nat.{ℕ, ◌+◌, ◌≤◌, ◌<◌}
use native.Mathlib.Numerals.{add-one}
use native.Mathlib.Omega.{arith}
use lib.ListN.{length, set, take, drop, drop_of_length-le}
use lib.Seq.{drop-cons, take_at}
use Rattle.runs.specs.Runs.{spread, over, put}
use Rattle.runs.proofs.Laws.{runs_none}
use Rattle.runs.proofs.Onward.{Onward, onward_step, onward_as, onward_done}
use Rattle.runs.proofs.Written.{written_whole}
use Rattle.outline.specs.Stores.{posts_of, post_at}
use Rattle.outline.specs.declared.Edition.{Edition}
use Rattle.outline.specs.declared.Form.TheVariants.{Stroke}
use Rattle.outline.proofs.ReadBack.{posts_count, post_each}

-- a post is one number
pub one_post : ℕ → List ℕ
one_post p = p ∷ []

posts_spread : (ps : List ℕ) → spread one_post ps ≡ ps
unfolding spread one_post
posts_spread [] = refl
posts_spread (p ∷ ps) = ap (λ (l : List ℕ). p ∷ l) (posts_spread ps)

-- where showing has come to at vertex k
pub record PostsOn (e : Edition) (s : List ℕ) (n : ℕ) (l₀ l : List ℕ) (k : ℕ) : Type 0 where
  pub on : Onward put one_post l₀ 0 (posts_of (Stroke e) n s) l k (drop k (posts_of (Stroke e) n s))
  pub few : k ≤ n

module _ (e : Edition) (s : List ℕ) (n : ℕ) where
  long : length (posts_of (Stroke e) n s) ≡ n
  long = posts_count e n _

  module _ {l₀ l : List ℕ} {k : ℕ} (p : PostsOn e s n l₀ l k) where
    pub posts_step : {w : ℕ} → k < n → w ≡ post_at e s k → PostsOn e s n l₀ (set l k w) (k + 1)
    unfolding one_post spread over
    posts_step {w} h q =
        let r : drop k (posts_of (Stroke e) n s) ≡ (w ∷ []) ++ drop (k + 1) (posts_of (Stroke e) n s) =
        drop-cons (posts_of (Stroke e) n s) k 0 (omega (arith, long, h)) ∙ (λ i. (post_each e n s k h ∙ sym q) i ∷ drop (sym (add-one k) i) (posts_of (Stroke e) n s)) in
        record { on = onward_step {es = w ∷ []} (onward_as r p.on) (record { out = refl; pos = refl }); few = omega (arith, h) }

    pub posts_done : n ≤ k → n ≤ length l₀ → l ≡ posts_of (Stroke e) n s ++ drop n l₀
    posts_done h room =
        let t : length (posts_of (Stroke e) n s) ≤ k = omega (arith, long, h) in
        let d : drop k (posts_of (Stroke e) n s) ≡ [] = drop_of_length-le (posts_of (Stroke e) n s) t in
        let q = onward_done (onward_as d p.on) runs_none in
        let z : length (spread one_post (posts_of (Stroke e) n s)) ≡ n = ap length (posts_spread (posts_of (Stroke e) n s)) ∙ long in
        written_whole q (omega (arith, z, room)) ∙ (λ i. posts_spread (posts_of (Stroke e) n s) i ++ drop (z i) l₀)

  -- they stand at the front
  pub posts_front : {l : List ℕ} (l₀ : List ℕ) {k : ℕ} → l ≡ posts_of (Stroke e) n s ++ drop n l₀ → k ≡ n → take k l ≡ posts_of (Stroke e) n s
  posts_front l₀ {k} q z = ap (take k) q ∙ take_at (posts_of (Stroke e) n s) (drop n l₀) k (long ∙ sym z)
