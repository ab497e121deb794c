-- Numbers shown as words, one by one, and the outline that is kept with them. Assumes nothing.
use mathlib.Core.Path.{◌≡◌, sym, ap, ◌∙◌}
use mathlib.Core.List.{List, [], ◌∷◌, ◌++◌}
use Prim.Native.Nat.{ℕ, ◌+◌, ◌<◌}
use native.Mathlib.Numerals.{add-one}
use native.Mathlib.Omega.{arith}
use lib.IntN.{ℤ, pos}
use lib.ListN.{length, get_or, set, take}
use lib.Seq.{take-suc, take-suc-set}
use mir.Syntax.{w32}
use mir.Val.{SFits, to_z, of_z}
use mir.Facts.{to_z-of_z}
use Rattle.words.specs.Words.{word_of, words_of}
use Rattle.words.proofs.NumberRuns.{words-append}

-- one word more: w is what the code has for the word of the number at k
pub shown_more : (zs : List ℤ) (ps : List ℕ) {k w : ℕ} → length ps ≡ length zs → take k ps ≡ words_of (take k zs) → k < length zs → SFits w32 (get_or zs k (pos 0)) → w ≡ word_of (to_z w32 (of_z w32 (get_or zs k (pos 0))))
    → take (k + 1) (set ps k w) ≡ words_of (take (k + 1) zs)
unfolding words_of
shown_more zs ps {k} {w} long shown h fit e =
    let z = get_or zs k (pos 0) in
    rw (add-one k)
    (take-suc-set ps k w (omega arith)
    ∙ (λ i. shown i ++ ((e ∙ ap word_of (to_z-of_z fit)) i ∷ []))
    ∙ sym (ap words_of (take-suc zs k (pos 0) h) ∙ words-append (take k zs) (z ∷ [])))
