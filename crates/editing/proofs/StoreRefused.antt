-- What replace makes of the rows of a store: a refusal of theirs is its reply, and so is that of a kerb. Assumes nothing.
use Rattle.std.specs.Prelude.{Result, Err}
use mathlib.Core.Path.{◌≡◌, sym, ◌∙◌}
use mathlib.Core.List.{List, ◌++◌}
use Prim.Native.Nat.{ℕ, ◌-◌}
use lib.IntN.{ℤ}
use lib.ListN.{length, replicate}
use Rattle.contacts.specs.declared.Vertex.{Vertex}
use Rattle.outline.specs.Stores.{length_in}
use Rattle.editing.specs.Replacing.{replaced_of, replace_reply, replace_out, Replaces}
use Rattle.replies.specs.Refusals.{refusal_of, reply_of}
use Rattle.checking.specs.Known.{Passed}
use Rattle.checking.specs.StoreChecks.{StoreSays}
use Rattle.replies.specs.declared.Refusal.{Refusal}
use Rattle.heading.specs.Headers.{KerbRefused}
use Rattle.heading.specs.declared.Header.{Header}
use Rattle.replies.proofs.Rows.{refused_written}
use Rattle.checking.proofs.StoreReads.{store_refuses, store_passes}
use Rattle.checking.proofs.OtherKinds.{kerb_refused}

refusal : {s : List ℕ} (k : ℕ) (v : Vertex) (r : Refusal) → refusal_of r ≡ replace_reply s k v → Replaces s k v (Err r) s
unfolding replace_out
refusal {s} k v r f = record { reply = f; store = refused_written r (replaced_of s k v ++ replicate (length_in s - length (replaced_of s k v)) 0) s f }

pub replace_other : {s : List ℕ} {p : List ℤ} {h : Header} {r : Refusal} (k : ℕ) (v : Vertex) → Passed s p h → KerbRefused h.form r → Replaces s k v (Err r) s
unfolding replace_reply
replace_other {r = r} k v a (q, (y, e)) = refusal k v r (rw q (kerb_refused a.sound.head _ _ e ∙ sym (store_passes _ _ a.sound)))

pub replace_refused : {s : List ℕ} {p : List ℤ} {c : Result Header Refusal} {r : Refusal} (k : ℕ) (v : Vertex) → c ≡ Err r → StoreSays s p c → Replaces s k v (Err r) s
unfolding replace_reply
replace_refused {r = r} k v e a = refusal k v r (store_refuses _ _ a e)
