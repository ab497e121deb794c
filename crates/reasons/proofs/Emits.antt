-- The rule that is told emits the edge. Assumes nothing.
use mathlib.Core.Path.{◌≡◌, refl, sym, ap, ◌∙◌}
use mathlib.Core.Bool.{Bool, true, false}
use mathlib.Core.List.{List, [], ◌∷◌, ◌++◌}
use Prim.Native.Nat.{ℕ, suc, ◌+◌, ◌-◌, ◌≤◌, ◌<◌}
use native.Mathlib.Nat.{sub-zero}
use native.Mathlib.Omega.{arith}
use borrow.Author.Tests.{ltb-true, ltb-false, eq-eqb, ne_eqb}
use lib.Dec.{ltb}
use lib.ListN.{length, get_or, length-append, get_or-append}
use lib.Seq.{get_or-append-add}
use Rattle.runs.specs.Runs.{spread}
use Rattle.plane.specs.Directions.{step_of}
use Rattle.turning.specs.declared.Edge.{Edge}
use Rattle.paths.specs.Paths.{joined, edges_of}
use Rattle.reasons.specs.Reasons.{Piece, pieces_at, path_pieces, body_of_pieces, bodies_of_pieces, body_whys, whys_from, whys_of, reason_number, edges_under, edge_for, RuleEmits}
use Rattle.reasons.specs.declared.Why.{Why}
use Rattle.reasons.proofs.Pieces.{pieces_are_bodies}
use Rattle.reasons.proofs.OneReason.{Once, AllOnce, none_here, without-at, body_tells, from_tells, at_once, body-length, first_why, later_why, body_more}

-- the edge that a why names among the pieces of its body
named : List Piece → Why → Edge → Edge
named ps w d = get_or (edges_under ps w.reason) w.place d

module _ (p : Piece) (ps : List Piece) (w : Why) (d : Edge) where
  named_here : reason_number p.reason ≡ reason_number w.reason → named (p ∷ ps) w d ≡ get_or p.edges w.place d
  unfolding named edges_under
  named_here e = rw (eq-eqb (reason_number p.reason) (reason_number w.reason) e, edges_under)

  named_later : (reason_number p.reason ≡ reason_number w.reason → ⊥) → named (p ∷ ps) w d ≡ named ps w d
  unfolding named edges_under
  named_later h = rw (ne_eqb (reason_number p.reason) (reason_number w.reason) h, edges_under)

module _ (p : Piece) (ps : List Piece) (k : ℕ) (d : Edge) where
  body-first : k < length p.edges → get_or (body_of_pieces (p ∷ ps)) k d ≡ get_or p.edges k d
  unfolding body_of_pieces spread
  body-first h = get_or-append p.edges (body_of_pieces ps) d k h

  body_rest : get_or (body_of_pieces (p ∷ ps)) (length p.edges + k) d ≡ get_or (body_of_pieces ps) k d
  unfolding body_of_pieces spread
  body_rest = get_or-append-add p.edges (body_of_pieces ps) k d

body_emits : (i : ℕ) (ps : List Piece) (k : ℕ) (w : Why) (d : Edge) → Once ps → k < length (body_whys i ps) → named ps (get_or (body_whys i ps) k w) d ≡ get_or (body_of_pieces ps) k d
unfolding Once
body_emits i [] k w d h l = absurd (none_here i k l)
body_emits i (p ∷ ps) k w d h l = go (ltb k (length p.edges)) refl (λ j. body_emits i ps j w d h.1)
  where
    go : (x : Bool) → ltb k (length p.edges) ≡ x → ((j : ℕ) → j < length (body_whys i ps) → named ps (get_or (body_whys i ps) j w) d ≡ get_or (body_of_pieces ps) j d)
        → named (p ∷ ps) (get_or (body_whys i (p ∷ ps)) k w) d ≡ get_or (body_of_pieces (p ∷ ps)) k d
    go true e rest =
        let m : k < length p.edges = ltb-true k (length p.edges) e in
        rw (first_why i p ps w k m) (named_here p ps (record { reason = p.reason; vertex = i; place = k }) d refl ∙ sym (body-first p ps k d m))
    go false e rest =
        let n : length p.edges ≤ k = ltb-false k (length p.edges) e in
        let j = k - length p.edges in
        let f : k ≡ length p.edges + j = omega arith in
        let g : get_or (body_whys i (p ∷ ps)) k w ≡ get_or (body_whys i ps) j w = ap (λ (q : ℕ). get_or (body_whys i (p ∷ ps)) q w) f ∙ later_why i p ps w j in
        let m : j < length (body_whys i ps) = omega (arith, body_more i p ps w) in
        let o = without-at (reason_number p.reason) i ps j w h.0 m in
        rw g (named_later p ps (get_or (body_whys i ps) j w) d (λ z. o (sym z)) ∙ rest j m ∙ sym (ap (λ (q : ℕ). get_or (body_of_pieces (p ∷ ps)) q d) f ∙ body_rest p ps j d))

from_emits : (i : ℕ) (pss : List (List Piece)) (k : ℕ) (w : Why) (d : Edge) → AllOnce pss → k < length (whys_from i pss)
    → named (get_or pss ((get_or (whys_from i pss) k w).vertex - i) []) (get_or (whys_from i pss) k w) d ≡ get_or (joined (bodies_of_pieces pss)) k d
unfolding AllOnce whys_from joined bodies_of_pieces
from_emits i [] k w d h l = absurd (omega arith)
from_emits i (ps ∷ pss) k w d h l = go (ltb k (length (body_whys i ps))) refl (λ j. from_emits (suc i) pss j w d h.1)
  where
    go : (x : Bool) → ltb k (length (body_whys i ps)) ≡ x
        → ((j : ℕ) → j < length (whys_from (suc i) pss) → named (get_or pss ((get_or (whys_from (suc i) pss) j w).vertex - suc i) []) (get_or (whys_from (suc i) pss) j w) d ≡ get_or (joined (bodies_of_pieces pss)) j d)
        → named (get_or (ps ∷ pss) ((get_or (body_whys i ps ++ whys_from (suc i) pss) k w).vertex - i) []) (get_or (body_whys i ps ++ whys_from (suc i) pss) k w) d ≡ get_or (body_of_pieces ps ++ joined (bodies_of_pieces pss)) k d
    go true e rest =
        let m : k < length (body_whys i ps) = ltb-true k (length (body_whys i ps)) e in
        let b : k < length (body_of_pieces ps) = omega (arith, body-length i ps) in
        let v : (get_or (body_whys i ps) k w).vertex - i ≡ 0 = omega (arith, (body_tells i ps k w h.0 m).0) in
        rw (get_or-append (body_whys i ps) (whys_from (suc i) pss) w k m, v) (body_emits i ps k w d h.0 m ∙ sym (get_or-append (body_of_pieces ps) (joined (bodies_of_pieces pss)) d k b))
    go false e rest =
        let n : length (body_whys i ps) ≤ k = ltb-false k (length (body_whys i ps)) e in
        let j = k - length (body_whys i ps) in
        let f : k ≡ length (body_whys i ps) + j = omega arith in
        let f₂ : k ≡ length (body_of_pieces ps) + j = omega (arith, body-length i ps) in
        let g : get_or (body_whys i ps ++ whys_from (suc i) pss) k w ≡ get_or (whys_from (suc i) pss) j w = ap (λ (q : ℕ). get_or (body_whys i ps ++ whys_from (suc i) pss) q w) f ∙ get_or-append-add (body_whys i ps) (whys_from (suc i) pss) j w in
        let m : j < length (whys_from (suc i) pss) = omega (arith, length-append (body_whys i ps) (whys_from (suc i) pss)) in
        let v : (get_or (whys_from (suc i) pss) j w).vertex - i ≡ suc ((get_or (whys_from (suc i) pss) j w).vertex - suc i) = omega (arith, (from_tells (suc i) pss j w h.1 m).0) in
        rw (g, v) (rest j m ∙ sym (ap (λ (q : ℕ). get_or (body_of_pieces ps ++ joined (bodies_of_pieces pss)) q d) f₂ ∙ get_or-append-add (body_of_pieces ps) (joined (bodies_of_pieces pss)) j d))

pub rule_emits : RuleEmits
unfolding edge_for edges_of whys_of path_pieces named
rule_emits g vs k w d h =
    let pss = pieces_at (step_of g) vs in
    ap (λ (v : ℕ). named (get_or pss v []) (get_or (whys_from 0 pss) k w) d) (sym (sub-zero (get_or (whys_from 0 pss) k w).vertex))
    ∙ from_emits 0 pss k w d (at_once (step_of g) vs) h
    ∙ ap (λ (bs : List (List Edge)). get_or (joined bs) k d) (pieces_are_bodies g vs)
