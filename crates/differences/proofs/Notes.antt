-- Numbers written one by one, and notes by places. Assumes nothing.
use mathlib.Core.Path.{◌≡◌, refl, sym, ap, ◌∙◌}
use mathlib.Core.Bool.{Bool, true, false}
use mathlib.Core.List.{List, [], ◌∷◌, ◌++◌}
use Prim.Native.Nat.{ℕ, ◌+◌, ◌*◌, ◌≤◌, ◌<◌}
use native.Mathlib.Numerals.{add-one}
use native.Mathlib.Nat.{zero-add}
use native.Mathlib.Omega.{arith}
use borrow.Author.Tests.{eq-eqb, ne_eqb}
use lib.Dec.{eqb}
use lib.ListN.{length, get_or, set, drop, drop_of_length-le}
use lib.Seq.{drop-cons}
use Rattle.runs.specs.Runs.{spread, over, Runs, put}
use Rattle.runs.proofs.Laws.{runs_none}
use Rattle.runs.proofs.Onward.{Onward, onward_step, onward_as, onward_done}
use Rattle.runs.proofs.Written.{written_whole}
use Rattle.differences.specs.Differences.{note_of, notes_from}
use Rattle.differences.specs.Bodies.{single}

-- ---- numbers by themselves

pub singles : (ws : List ℕ) → spread single ws ≡ ws
unfolding spread single
singles [] = refl
singles (w ∷ ws) = ap (λ (l : List ℕ). w ∷ l) (singles ws)

pub single_run : (l : List ℕ) (at w : ℕ) → Runs put single l at (w ∷ []) (set l at w) (at + 1)
unfolding spread over single
single_run l at w = record { out = refl; pos = refl }

module _ {l₀ l₁ ws : List ℕ} {r : ℕ} (p : Runs put single l₀ 0 ws l₁ r) where
  pub singles_count : r ≡ length ws
  singles_count = p.pos ∙ zero-add (length (spread single ws)) ∙ ap length (singles ws)

  pub singles_whole : length ws ≤ length l₀ → l₁ ≡ ws ++ drop (length ws) l₀
  singles_whole h = written_whole p (omega (arith, ap length (singles ws))) ∙ (λ i. singles ws i ++ drop (length (singles ws i)) l₀)

-- ---- one note

module _ {l : List ℕ} {at : ℕ} (place : ℕ) {what : ℕ} where
  pub note_none : what ≡ 0 → Runs put single l at (note_of place what) l at
  unfolding note_of
  note_none e = rw (eq-eqb what 0 e, note_of) runs_none

  pub note_some : {l₁ l₂ : List ℕ} → (what ≡ 0 → ⊥) → l₁ ≡ set l at place → l₂ ≡ set l₁ (at + 1) what → Runs put single l at (note_of place what) l₂ (at + 2)
  unfolding note_of spread over single
  note_some h e f = rw (ne_eqb what 0 h, note_of) (record { out = cc (add-one at); pos = refl })

note_most : (place what : ℕ) → length (note_of place what) ≤ 2
unfolding note_of
note_most place what = go (eqb what 0)
  where
    go : (t : Bool) → length {A = ℕ} (elim t as (λ _. List ℕ) [ true ↦ [] | false ↦ place ∷ what ∷ [] ]) ≤ 2
    go true = omega arith
    go false = omega arith

-- ---- all notes, place by place

pub record NotesOn (ds l₀ l : List ℕ) (place at : ℕ) : Type 0 where
  pub on : Onward put single l₀ 0 (notes_from 0 ds) l at (notes_from place (drop place ds))
  pub most : at ≤ 2 * place
  pub few : place ≤ length ds

module _ {ds l₀ l : List ℕ} {place at : ℕ} (p : NotesOn ds l₀ l place at) where
  next : place < length ds → notes_from place (drop place ds) ≡ note_of place (get_or ds place 0) ++ notes_from (place + 1) (drop (place + 1) ds)
  unfolding notes_from
  next h = rw (drop-cons ds place 0 h, add-one)

  pub notes_step : {what : ℕ} {l₁ : List ℕ} {at₁ : ℕ} → place < length ds → what ≡ get_or ds place 0 → Runs put single l at (note_of place what) l₁ at₁ → NotesOn ds l₀ l₁ (place + 1) at₁
  notes_step {what} h e q = record {
    on = onward_step (onward_as (next h ∙ ap (λ (w : ℕ). note_of place w ++ notes_from (place + 1) (drop (place + 1) ds)) (sym e)) p.on) q;
    most = omega (arith, q.pos, ap length (singles (note_of place what)), note_most place what, p.most);
    few = omega (arith, h);
  }

  pub notes_done : length ds ≤ place → Runs put single l₀ 0 (notes_from 0 ds) l at
  unfolding notes_from
  notes_done h =
      let e : notes_from place (drop place ds) ≡ [] = ap (notes_from place) (drop_of_length-le ds h) in
      onward_done (onward_as e p.on) runs_none
