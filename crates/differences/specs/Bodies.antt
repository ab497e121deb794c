-- What the functions that find differences promise, body by body.
use Rattle.std.specs.Prelude.{◌≡◌, List, [], ◌∷◌, ℕ, ◌+◌, ◌*◌, ◌≤◌, ℤ, length, take}
use Rattle.turning.specs.declared.Edge.{Edge}
use Rattle.variable_stroke.specs.declared.Walk.{Walk}
use Rattle.words.specs.Words.{words_of}
use Rattle.outline.specs.Layout.{edge_bytes, front_bytes}
use Rattle.outline.specs.Outlines.{body_words}
use Rattle.outline.specs.Stores.{edition_in, edition_of, count_in}
use Rattle.outline.specs.declared.Edition.{Edition}
use Rattle.outline.specs.declared.Form.TheVariants.{Stroke}
use Rattle.differences.specs.Differences.{edges_differ, edges_number, difference_of}
use Rattle.differences.specs.declared.bodies.Differing.{Differing}

-- a number by itself, as a thing of a run
unfoldable pub single : ℕ → List ℕ
single w = w ∷ []

-- a store whose table stands in its bytes: its edition and its n vertices
pub record Fronted (s : List ℕ) (e : Edition) (n : ℕ) : Type 0 where
  pub edition : e ≡ edition_of (edition_in s)
  pub count : n ≡ count_in s
  pub few : n ≤ 4096
  pub long : front_bytes (Stroke e) n ≤ length s

-- the edges es, `due` of them, stand as numbers at the front of l
pub record OwnEdges (l : List ℤ) (due : ℕ) (es : List Edge) : Type 0 where
  pub count : length es ≡ due
  pub words : body_words es ≡ words_of (take (4 * due) l)

-- whatever edges stand in l: whether they differ, and what does
pub record EdgesTold (l : List ℤ) (due old : ℕ) (s : List ℕ) (at r : ℕ) : Type 0 where
  pub few : r ≤ 2
  pub each : (es : List Edge) → OwnEdges l due es → r ≡ edges_number (edges_differ s at old es)

pub record DifferenceTold (l : List ℤ) (due old : ℕ) (s : List ℕ) (at r : ℕ) : Type 0 where
  pub each : (es : List Edge) → OwnEdges l due es → r ≡ difference_of s at old es

-- one body more, es, after which the walk is `next`
pub record BodyTold (s : List ℕ) (d : Differing) (next : Walk) (old : ℕ) (es : List Edge) (r : Differing) : Type 0 where
  pub walk : r.walk ≡ next
  pub at : r.at ≡ d.at + edge_bytes * old
  pub edges : r.edges ≡ d.edges + length es
  pub what : r.what ≡ difference_of s d.at old es

-- whatever edges stand in l
pub record BodiesTold (l : List ℤ) (due : ℕ) (s : List ℕ) (d : Differing) (next : Walk) (old : ℕ) (r : Differing) : Type 0 where
  pub each : (es : List Edge) → OwnEdges l due es → BodyTold s d next old es r
