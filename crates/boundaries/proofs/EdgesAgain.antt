-- Edges read again from the numbers or the words that stand for them are the same edges. Assumes nothing.
use mathlib.Core.Path.{◌≡◌, refl, sym, ap, ◌∙◌}
use mathlib.Core.List.{List, [], ◌∷◌, append-nil}
use Prim.Native.Nat.{ℕ, ◌^◌}
use native.Mathlib.Omega.{arith}
use lib.IntN.{ℤ}
use Rattle.whole.specs.Sizes.{Size}
use Rattle.runs.specs.Runs.{spread}
use Rattle.turning.specs.Edges.{edge_numbers}
use Rattle.turning.specs.Bounds.{AllReach}
use Rattle.turning.specs.declared.Edge.{Edge}
use Rattle.words.specs.Words.{word_of, number_of, words_of, bytes_of, words_in}
use Rattle.words.proofs.Bytes.{words_back, words_fit, number_again}
use Rattle.outline.specs.Outlines.{body_words}
use Rattle.boundaries.specs.Results.{edges_from, numbers_of}

pub edges_again : (es : List Edge) → edges_from (spread edge_numbers es) ≡ es
unfolding edges_from spread edge_numbers
edges_again [] = refl
edges_again (e ∷ es) = ap (λ (fs : List Edge). e ∷ fs) (edges_again es)

number_near : {z : ℤ} → Size (2 ^ 29) z → number_of (word_of z) ≡ z
number_near {z} h = number_again z (omega (arith, h.size))

words_again : (es : List Edge) → AllReach es → edges_from (numbers_of (body_words es)) ≡ es
unfolding edges_from numbers_of body_words words_of spread edge_numbers AllReach
words_again [] h = refl
words_again (e ∷ es) h =
    let a = h.0.a in
    let b = h.0.b in
    λ i. record { a = record { x = number_near a.x i; y = number_near a.y i }; b = record { x = number_near b.x i; y = number_near b.y i } } ∷ words_again es h.1 i

pub bytes_again : (es : List Edge) → AllReach es → edges_from (numbers_of (words_in (bytes_of (body_words es)))) ≡ es
unfolding body_words words_in
bytes_again es h =
    let ws = body_words es in
    let e : words_in (bytes_of ws) ≡ ws = ap words_in (sym (append-nil (bytes_of ws))) ∙ words_back ws [] (words_fit (spread edge_numbers es)) ∙ append-nil ws in
    ap (λ (vs : List ℕ). edges_from (numbers_of vs)) e ∙ words_again es h
