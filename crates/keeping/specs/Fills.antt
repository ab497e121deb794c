-- What the functions that fill in an outline ask for and promise: its table and its bodies are two runs of words in one room.
use Rattle.std.specs.Prelude.{◌≡◌, List, ℕ, ◌+◌, ◌^◌, ◌≤◌, ◌<◌, length}
use Rattle.runs.specs.Runs.{spread, over, put}
use Rattle.plane.specs.declared.Vector.{Vector}
use Rattle.variable_stroke.specs.Chains.{emitted_of, next_of}
use Rattle.contacts.specs.declared.Vertex.{Vertex}
use Rattle.words.specs.Words.{four_bytes}
use Rattle.outline.specs.declared.Edition.{Edition}
use Rattle.outline.specs.Outlines.{entry_of, body_words}
use Rattle.keeping.specs.declared.filling.Filling.{Filling}

-- the words xs from t on end before the words ys from b on start, and no count wraps
pub record Apart (t : ℕ) (xs : List ℕ) (b : ℕ) (ys : List ℕ) : Type 0 where
  pub apart : t + length (spread four_bytes xs) ≤ b
  pub fits : b + length (spread four_bytes ys) < 2 ^ 64

-- in the room l₀ the words xs are put from t on and the words ys from b on: the room is then l₁, and ys end at e
pub record Both (l₀ : List ℕ) (t : ℕ) (xs : List ℕ) (b : ℕ) (ys : List ℕ) (l₁ : List ℕ) (e : ℕ) : Type 0 where
  pub out : l₁ ≡ over put (over put l₀ t (spread four_bytes xs)) b (spread four_bytes ys)
  pub pos : e ≡ b + length (spread four_bytes ys)

-- a step to the vertex v: its entry and its body
pub record StepFills (e : Edition) (t : Vector) (l₀ : List ℕ) (f : Filling) (v : Vertex) (post : ℕ) (l₁ : List ℕ) (g : Filling) : Type 0 where
  pub walk : g.walk ≡ next_of f.walk v
  pub table : g.table ≡ f.table + length (spread four_bytes (entry_of e v post (length (emitted_of t f.walk v))))
  pub both : Both l₀ f.table (entry_of e v post (length (emitted_of t f.walk v))) f.bodies (body_words (emitted_of t f.walk v)) l₁ g.bodies
