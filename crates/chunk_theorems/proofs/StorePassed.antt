-- An outline's own bytes: where none of its rows holds they are what is due. Assumes nothing.
use mathlib.Core.Path.{◌≡◌}
use mathlib.Core.List.{List}
use Prim.Native.Nat.{ℕ, ◌<◌}
use native.Mathlib.Omega.{arith}
use Rattle.words.specs.Words.{word_at}
use Rattle.outline.specs.Layout.{length_of}
use Rattle.outline.specs.Stores.{form_in, count_in, length_in, due_in}
use Rattle.outline.specs.declared.Form.{Form}
use Rattle.outline.specs.declared.Form.TheVariants.{Stroke, Kerb}
use Rattle.heading.specs.StoreRows.{store_rows}
use Rattle.chunk_adding.specs.Adding.{own_bytes}
use Rattle.replies.proofs.Rows.{NoneHold}
use Rattle.checking.proofs.StorePassed.{none-due}

pub passed_due : (s : List ℕ) → NoneHold (store_rows s) → own_bytes s ≡ due_in s
unfolding own_bytes
passed_due s h = none-due s h

-- an outline has a header
length_some : (f : Form) (n m : ℕ) → 0 < length_of f n m
length_some (Stroke e) n m = omega arith
length_some (Kerb y) n m = omega arith

pub outline_some : (s : List ℕ) → 0 < length_in s
unfolding length_in
outline_some s = length_some (form_in s) (count_in s) (word_at s 4)
