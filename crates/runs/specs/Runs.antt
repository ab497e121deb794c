-- A run: things, each of which is some elements, taken element by element at rising positions into a state. The state is lent room that is
-- written, or how far a store has agreed so far.
use Rattle.std.specs.Prelude.{◌≡◌, true, false, List, [], ◌∷◌, ◌++◌, ℕ, suc, ◌+◌, ◌^◌, ◌<◌, eqb, ltb, length, get_or, set}

-- the elements of all the things, in order
unfoldable pub spread : {A B : Type 0} → (B → List A) → List B → List A
spread g [] = []
spread g (e ∷ es) = g e ++ spread g es

-- elements taken one by one into the state s, from the position i on
unfoldable pub over : {S A : Type 0} → (S → ℕ → A → S) → S → ℕ → List A → S
over f s i [] = s
over f s i (v ∷ vs) = over f (f s i v) (suc i) vs

-- from the state s₀ and the position a₀ the things es are taken: the state is then s₁, and the position a₁
pub record Runs {S A B : Type 0} (f : S → ℕ → A → S) (g : B → List A) (s₀ : S) (a₀ : ℕ) (es : List B) (s₁ : S) (a₁ : ℕ) : Type 0 where
  pub out : s₁ ≡ over f s₀ a₀ (spread g es)
  pub pos : a₁ ≡ a₀ + length (spread g es)

-- One element into lent room. `set` leaves the room as it is where the place lies past its end: so a run over too little room counts.
abbrev pub put : {A : Type 0} → List A → ℕ → A → List A
put l i v = set l i v

-- How far a store agrees: all before `ok` does. One byte more, b at i, is agreed to only where all before i is.
unfoldable pub agree : List ℕ → ℕ → ℕ → ℕ → ℕ
agree store ok i b = elim (eqb ok i) [ true ↦ elim (ltb i (length store)) [ true ↦ elim (eqb (get_or store i 0) b) [ true ↦ suc ok | false ↦ ok ] | false ↦ ok ] | false ↦ ok ]

-- the position can go past the things: no count wraps
pub record Room {A B : Type 0} (g : B → List A) (a : ℕ) (es : List B) : Type 0 where
  pub fits : a + length (spread g es) < 2 ^ 64
