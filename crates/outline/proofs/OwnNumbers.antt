-- The edges that a step leaves in own numbers, from 0 on: how many there are, and their words. Assumes nothing.
use mathlib.Core.Path.{◌≡◌, sym, ap, ◌∙◌}
use mathlib.Core.List.{List}
use Prim.Native.Nat.{ℕ, ◌*◌, ◌/◌, ◌≤◌}
use native.Mathlib.Omega.{arith}
use lib.IntN.{ℤ}
use lib.ListN.{length, take, drop}
use lib.Seq.{take_at}
use Rattle.runs.specs.Runs.{spread, Runs, Room, put}
use Rattle.runs.proofs.Written.{written-length, written_whole}
use Rattle.turning.specs.Edges.{edge_numbers}
use Rattle.turning.specs.Bounds.{Most}
use Rattle.turning.specs.declared.Edge.{Edge}
use Rattle.turning.proofs.Most.{most_up, edges_four}
use Rattle.plane.specs.declared.Vector.{Vector}
use Rattle.variable_stroke.specs.declared.Walk.{Walk}
use Rattle.paths.proofs.Most.{finish_most}
use Rattle.words.specs.Words.{words_of}
use Rattle.outline.specs.Outlines.{body_words}
use Rattle.variable_stroke.specs.Chains.{close_of}

-- the closing body has no more edges than a step
pub close_most : (t : Vector) (w : Walk) → Most 9227 (close_of t w)
close_most t w = most_up (omega arith) (finish_most t w.chain w.closing)

pub own_room : {es : List Edge} → Most 9227 es → Room edge_numbers 0 es
own_room {es} m = record { fits = omega (arith, edges_four es, m.most) }

module _ {l₀ l₁ : List ℤ} {n : ℕ} {es : List Edge} (m : Most 9227 es) (p : Runs put edge_numbers l₀ 0 es l₁ n) where
  pub own_small : n ≤ 36908
  own_small = omega (arith, p.pos, edges_four es, m.most)

  pub own_count : length es ≡ n / 4
  own_count = omega (arith, p.pos, edges_four es)

  module _ (room : 4 * length es ≤ length l₀) where
    pub own_inside : n ≤ length l₁
    own_inside = omega (arith, p.pos, edges_four es, room, written-length p)

    pub own_words : body_words es ≡ words_of (take n l₁)
    unfolding body_words
    own_words =
        let long : length (spread edge_numbers es) ≤ length l₀ = omega (arith, edges_four es, room) in
        ap words_of (sym (ap (take n) (written_whole p long) ∙ take_at (spread edge_numbers es) (drop (length (spread edge_numbers es)) l₀) n (omega (arith, p.pos))))
