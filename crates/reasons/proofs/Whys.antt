-- One law for each case of a body's reasons, with what the code has counted as variables and equations. Assumes nothing.
use Rattle.std.specs.Prelude.{Option, Some, None}
use mathlib.Core.Path.{◌≡◌, refl, sym, ap, ◌∙◌}
use mathlib.Core.Bool.{Bool, true, false}
use mathlib.Core.List.{List, [], ◌∷◌, ◌++◌, append-nil}
use Prim.Native.Nat.{ℕ, ◌+◌, ◌≤◌, ◌<◌}
use native.Mathlib.Numerals.{add-one}
use native.Mathlib.Omega.{arith}
use lib.ListN.{length, get_or, drop, drop_of_length-le}
use lib.Seq.{drop-cons}
use Rattle.runs.specs.Runs.{spread}
use Rattle.runs.proofs.Laws.{spread-append}
use Rattle.plane.specs.declared.Vector.{Vector}
use Rattle.turning.specs.Edges.{edge_of}
use Rattle.contacts.specs.Contacts.{kind_of, section_of}
use Rattle.contacts.specs.Covering.{covered_of}
use Rattle.contacts.specs.declared.Vertex.{Vertex}
use Rattle.contacts.specs.declared.Exactness.{Exactness}
use Rattle.contacts.specs.declared.Section.{Section}
use Rattle.contacts.specs.declared.Kind.TheVariants.{Broken, Drawn, Thin}
use Rattle.joins.specs.Joins.{start_cap, left_join, right_join, same_centre, gap_of}
use Rattle.joins.specs.declared.Cap.{Cap}
use Rattle.joins.specs.declared.Cap.TheVariants.{Butt, Round}
use Rattle.variable_stroke.specs.Chains.{fresh_of, finish_last, finish_of, break_end, leave_chain, emitted_of, next_of, start_of}
use Rattle.variable_stroke.specs.declared.Chain.{Chain}
use Rattle.variable_stroke.specs.declared.Walk.{Walk}
use Rattle.variable_stroke.proofs.ChainSteps.{emitted_broken}
use Rattle.paths.specs.Paths.{none}
use Rattle.reasons.specs.Reasons.{finish_pieces, join_pieces, meet_pieces, backward, drawn_pieces, leave_pieces, pieces_of, pieces_from, pieces_at, places_from, piece_whys, body_whys, whys_from}
use Rattle.reasons.specs.Lists.{end_reason}
use Rattle.reasons.specs.declared.Reason.{Reason}
use Rattle.reasons.specs.declared.Reason.TheVariants.{LeftSide, RightSide, StartCap, LeftJoin, RightJoin, Gap}

module _ (v : ℕ) (t : Vector) where
  finish_is : (l : Option Section) (c : Chain) (k : Cap) → body_whys v (finish_pieces t l c k) ≡ places_from (end_reason l) v 0 (length (finish_last t l c k))
  unfolding body_whys spread piece_whys finish_pieces finish_last end_reason
  finish_is (Some s) c k = append-nil _
  finish_is None c k = append-nil _

  pub finish_whys : (c : Chain) (k : Cap) {r : Reason} {n : ℕ} → r ≡ end_reason c.last → n ≡ length (finish_of t c k) → body_whys v (finish_pieces t c.last c k) ≡ places_from r v 0 n
  unfolding finish_of
  finish_whys c k e f = rw (e, f) (finish_is c.last c k)

  pub join_whys_met : (prev next : Section) {n m : ℕ} → same_centre prev next ≡ true → n ≡ length (left_join t prev next) → m ≡ length (right_join t prev next)
      → body_whys v (join_pieces t prev next) ≡ places_from LeftJoin v 0 n ++ places_from RightJoin v 0 m
  unfolding body_whys spread piece_whys join_pieces
  join_whys_met prev next e f g = rw (e, f, g, join_pieces) (ap (λ ws. places_from LeftJoin v 0 (length (left_join t prev next)) ++ ws) (append-nil _))

  pub join_whys_gap : (prev next : Section) {n : ℕ} → same_centre prev next ≡ false → n ≡ length (gap_of t prev next) → body_whys v (join_pieces t prev next) ≡ places_from Gap v 0 n
  unfolding body_whys spread piece_whys join_pieces
  join_whys_gap prev next e f = rw (e, f, join_pieces) (append-nil _)

  pub meet_whys_held : (l : Option Section) (k : Cap) (s : Section) {prev : Section} → l ≡ Some prev → body_whys v (meet_pieces t l k s) ≡ body_whys v (join_pieces t prev s)
  unfolding meet_pieces
  meet_whys_held l k s e = rw e

  pub meet_whys_none : (l : Option Section) (k : Cap) (s : Section) {n : ℕ} → l ≡ None → n ≡ length (start_cap t s k) → body_whys v (meet_pieces t l k s) ≡ places_from StartCap v 0 n
  unfolding body_whys spread piece_whys meet_pieces
  meet_whys_none l k s e f = rw (e, f) (append-nil _)

  pub drawn_whys : (c : Chain) (s : Section) {n m : ℕ} {x : Exactness} → x ≡ backward s.exact.left → n ≡ length (edge_of s.left.b s.left.a) → m ≡ length (edge_of s.right.a s.right.b)
      → body_whys v (drawn_pieces t c s) ≡ places_from (LeftSide x) v 0 n ++ (places_from (RightSide s.exact.right) v 0 m ++ body_whys v (meet_pieces t c.last c.cap s))
  unfolding body_whys spread piece_whys drawn_pieces
  drawn_whys c s x e f = rw (x, e, f)

  module _ (w : Walk) (b : Vertex) {x : Bool} (e : x ≡ covered_of w.previous b) where
    pub leave_whys_yes : x ≡ true → body_whys v (leave_pieces t w b) ≡ body_whys v (finish_pieces t w.chain.last w.chain Round)
    unfolding leave_pieces
    leave_whys_yes f = let k : covered_of w.previous b ≡ true = sym e ∙ f in rw (k, leave_pieces)

    pub leave_whys_no : x ≡ false → body_whys v (leave_pieces t w b) ≡ []
    unfolding leave_pieces body_whys spread
    leave_whys_no f = let k : covered_of w.previous b ≡ false = sym e ∙ f in rw (k, leave_pieces)

  module _ (w : Walk) (b : Vertex) where
    pub step_whys_broken : {r : Reason} {n : ℕ} → kind_of w.at b ≡ Broken → r ≡ end_reason w.chain.last → n ≡ length (emitted_of t w b) → body_whys v (pieces_of t w b) ≡ places_from r v 0 n
    unfolding pieces_of
    step_whys_broken e f g = rw (e, pieces_of) (finish_whys w.chain (break_end w.at b) f (g ∙ ap length (emitted_broken t w b e refl)))

    pub step_whys_drawn : {c : Chain} {s : Section} → kind_of w.at b ≡ Drawn → c ≡ leave_chain w b → s ≡ section_of w.at b → body_whys v (pieces_of t w b) ≡ body_whys v (leave_pieces t w b) ++ body_whys v (drawn_pieces t c s)
    unfolding pieces_of body_whys
    step_whys_drawn e f g = rw (e, f, g, pieces_of) (spread-append (piece_whys v) (leave_pieces t w b) (drawn_pieces t (leave_chain w b) (section_of w.at b)))

    pub step_whys_thin : kind_of w.at b ≡ Thin → body_whys v (pieces_of t w b) ≡ body_whys v (leave_pieces t w b)
    unfolding pieces_of
    step_whys_thin e = rw (e, pieces_of)

-- the chain that goes on

module _ (w : Walk) (b : Vertex) {x : Bool} (e : x ≡ covered_of w.previous b) where
  pub chain_left_yes : {c : Chain} → x ≡ true → c ≡ fresh_of w.at Butt → c ≡ leave_chain w b
  unfolding leave_chain
  chain_left_yes f g = let k : covered_of w.previous b ≡ true = sym e ∙ f in rw (k, leave_chain) g

  pub chain_left_no : x ≡ false → w.chain ≡ leave_chain w b
  unfolding leave_chain
  chain_left_no f = let k : covered_of w.previous b ≡ false = sym e ∙ f in rw (k, leave_chain)

-- ---- a path's reasons from a walk on

pub whys_start : (t : Vector) (vs : List Vertex) {a : Vertex} {w : Walk} → 0 < length vs → a ≡ get_or vs 0 none → w ≡ start_of a → whys_from 0 (pieces_at t vs) ≡ whys_from 1 (pieces_from t w (drop 1 vs))
unfolding pieces_at whys_from body_whys spread
whys_start t [] h e f = absurd (omega arith)
whys_start t (v ∷ vs) h e f = rw (f, e)

pub whys_none : (t : Vector) (vs : List Vertex) → length vs ≡ 0 → whys_from 0 (pieces_at t vs) ≡ []
unfolding pieces_at whys_from body_whys spread
whys_none t [] h = refl
whys_none t (v ∷ vs) h = absurd (omega arith)

module _ (t : Vector) (vs : List Vertex) (k : ℕ) (w : Walk) where
  pub whys_step : {b : Vertex} {u : Walk} → k < length vs → b ≡ get_or vs k none → u ≡ next_of w b
      → whys_from k (pieces_from t w (drop k vs)) ≡ body_whys k (pieces_of t w b) ++ whys_from (k + 1) (pieces_from t u (drop (k + 1) vs))
  unfolding pieces_from whys_from
  whys_step h e f = rw (f, add-one, e, drop-cons vs k none h)

  pub whys_end : {n : ℕ} → n ≡ k → length vs ≤ k → whys_from k (pieces_from t w (drop k vs)) ≡ body_whys n (finish_pieces t w.chain.last w.chain w.closing)
  unfolding pieces_from whys_from
  whys_end e h = rw (e, drop_of_length-le vs h) (append-nil (body_whys k (finish_pieces t w.chain.last w.chain w.closing)))
