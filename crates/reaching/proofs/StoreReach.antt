-- What the call replies: of a store that its rows refuse, and of one that passed them. Assumes nothing.
use Rattle.std.specs.Prelude.{Result, Ok, Err}
use mathlib.Core.Path.{◌≡◌, sym, ap, ◌∙◌}
use mathlib.Core.List.{List, [], ◌∷◌}
use Prim.Native.Nat.{ℕ, ◌*◌, ◌≤◌, ◌<◌}
use borrow.Author.Tests.{le-leb, lt-leb}
use lib.IntN.{ℤ}
use lib.ListN.{length, take}
use Rattle.contacts.specs.Limits.{first_outside}
use Rattle.paths.specs.Paths.{path_of}
use Rattle.outline.specs.Stores.{path_in}
use Rattle.replies.specs.Replies.{Reply, first_row, index_row}
use Rattle.replies.specs.Refusals.{reply_of}
use Rattle.checking.specs.StoreChecks.{StoreSays}
use Rattle.replies.specs.declared.Refusal.{Refusal}
use Rattle.replies.specs.declared.Refusal.TheVariants.{NoVertex}
use Rattle.heading.specs.Headers.{KerbRefused}
use Rattle.heading.specs.declared.Header.{Header}
use Rattle.heading.proofs.Shown.{path_back}
use Rattle.checking.proofs.StoreReads.{store_refuses, store_passes}
use Rattle.checking.proofs.OtherKinds.{stroke_passes, kerb_refused}
use Rattle.outline.specs.declared.Edition.{Edition}
use Rattle.outline.specs.declared.Form.TheVariants.{Stroke}
use Rattle.checking.specs.Known.{Passed}
use Rattle.checking.proofs.KnownStore.{known, known_few}
use Rattle.reaching.specs.Replies.{reached_of, reach_reply, Reaches}

-- ---- the row of the index, of n vertices

module _ (n k : ℕ) where
  pub index_refused : (last : Reply) → n ≤ k → reply_of (Err (NoVertex k)) ≡ first_row (index_row n k ∷ []) last
  unfolding first_row index_row
  index_refused last h = rw (le-leb n k h, first_row)

  pub index_passed : {r : ℕ} (j : ℕ) → k < n → r ≡ j → reply_of (Ok r) ≡ first_row (index_row n k ∷ []) (0, j)
  unfolding first_row index_row
  index_passed j h e = rw (lt-leb n k h, first_row) (ap (λ (i : ℕ). (0, i)) e)

-- ---- the store

pub reach_refused : {s : List ℕ} {p : List ℤ} {c : Result Header Refusal} {r : Refusal} (k : ℕ) → c ≡ Err r → StoreSays s p c → Reaches s k (Err r)
unfolding reach_reply
reach_refused k e a = record { reply = store_refuses _ _ a e }

module _ {s : List ℕ} {p : List ℤ} {h : Header} (a : Passed s p h) where
  pub reach_other : {r : Refusal} (k : ℕ) → KerbRefused h.form r → Reaches s k (Err r)
  unfolding reach_reply
  reach_other k (q, (y, e)) = record { reply = rw q (kerb_refused a.sound.head _ _ e ∙ sym (store_passes _ _ a.sound)) }

  module _ {d : Edition} (e : h.form ≡ Stroke d) where
    pub numbers_held : 3 * h.n ≤ length p
    numbers_held = (known_few (known a e)).1

    -- the store's path is what stands at the front of the numbers: m is what the code has for how many numbers that is
    module _ {m : ℕ} (f : m ≡ 3 * h.n) where
      path_shown : path_of (take m p) ≡ path_in s
      path_shown = ap (λ (k : ℕ). path_of (take k p)) f ∙ ap path_of (known a e).path ∙ path_back (path_in s)

      pub path_held : first_outside (path_of (take m p)) ≡ length (path_of (take m p))
      path_held = rw path_shown a.sound.within.inside

      pub reach_passed : {r : Result ℕ Refusal} (k : ℕ) → reply_of r ≡ first_row (index_row (length (path_of (take m p))) k ∷ []) (0, reached_of (path_of (take m p)) k) → Reaches s k r
      unfolding reach_reply
      reach_passed k g = record { reply = rw path_shown at g ∙ sym (store_passes _ _ a.sound ∙ stroke_passes a.sound.head _ _ e) }
