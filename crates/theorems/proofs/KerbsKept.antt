-- A kerb is kept alike in every room that holds its outline: only the last row looks at the room. Assumes nothing.
use mathlib.Core.Path.{◌≡◌, sym, ap, ◌∙◌}
use Prim.Native.Nat.{ℕ}
use native.Mathlib.Omega.{arith}
use borrow.Author.Tests.{le-ltb}
use lib.ListN.{length, take}
use lib.Seq.{take_at}
use Rattle.replies.specs.Replies.{Reply, room_row}
use Rattle.replies.proofs.Rows.{none_last}
use Rattle.kerb_rows.specs.KerbRows.{kerb_rows}
use Rattle.keeping.specs.Keeping.{write_rows}
use Rattle.kerb_keeping.specs.KerbKeeping.{kerb_bytes, keep_kerb_reply}
use Rattle.kerb_keeping.proofs.KerbKept.{kerb_none, kerb_out}
use Rattle.theorems.specs.Theorems.{OneKerbOutlineKept}

pub one_kerb_outline_kept : OneKerbOutlineKept
unfolding keep_kerb_reply kerb_bytes kerb_rows write_rows room_row
one_kerb_outline_kept l g r j c m a b e k =
    let h : (keep_kerb_reply l g r j c (length a)).0 ≡ 0 = ap (λ (x : Reply). x.0) e in
    let made = kerb_bytes l g r j c in
    let n = kerb_none l g r j c (length a) h in
    let long : length made ≡ m = ap (λ (x : Reply). x.1) (sym (none_last _ _ n) ∙ e) in
    let f : keep_kerb_reply l g r j c (length b) ≡ (0, m) =
    none_last _ _ (n.0, (n.1.0, (n.1.1.0, (n.1.1.1.0, (n.1.1.1.1.0, (n.1.1.1.1.1.0, (le-ltb (length b) (length made) (omega (arith, long, k)), tt)))))))
    ∙ ap (λ (x : ℕ). (0, x)) long in (
      f,
      ap (take m) (kerb_out l g r j c b (ap (λ (x : Reply). x.0) f)) ∙ take_at made _ m long ∙ sym (ap (take m) (kerb_out l g r j c a h) ∙ take_at made _ m long),
    )
