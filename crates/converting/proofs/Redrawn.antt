-- An outline drawn anew over lent bytes: what the row of the room makes of it. Assumes nothing.
use Rattle.std.specs.Prelude.{Ok, Err}
use mathlib.Core.Path.{◌≡◌, refl, sym, ap, ◌∙◌}
use mathlib.Core.List.{List}
use Prim.Native.Nat.{ℕ, ◌≤◌, ◌<◌}
use native.Mathlib.Omega.{arith}
use lib.ListN.{length}
use Rattle.contacts.specs.declared.Vertex.{Vertex}
use Rattle.outline.specs.Outlines.{outline_bytes}
use Rattle.outline.specs.declared.Form.{Form}
use Rattle.replies.specs.Refusals.{reply_of}
use Rattle.replies.specs.declared.Refusal.TheVariants.{NoRoom}
use Rattle.replies.proofs.Rows.{room_short, room_enough, refused_written}
use Rattle.keeping.specs.Rewriting.{Writes}
use Rattle.converting.specs.Converting.{Redraws}

module _ (f : Form) (g : ℕ) (ps : List ℕ) (vs : List Vertex) (s : List ℕ) (old : ℕ) where
  pub redraw_short : {needed : ℕ} → needed ≡ length (outline_bytes f g ps vs) → length s < needed → Redraws s f g ps vs old (Err (NoRoom needed)) s
  redraw_short e l =
      let k = length (outline_bytes f g ps vs) in
      record {
        reply = ap (λ (x : ℕ). (5, x)) e ∙ sym (room_short k (length s) k (0, k) (omega (arith, e, l)));
        bytes = refused_written (NoRoom _) _ s refl;
      }

  pub redraw_done : {s₁ : List ℕ} {end : ℕ} → length (outline_bytes f g ps vs) ≤ length s → Writes s (outline_bytes f g ps vs) old end s₁ → Redraws s f g ps vs old (Ok end) s₁
  redraw_done l w =
      let k = length (outline_bytes f g ps vs) in
      record { reply = ap (λ (x : ℕ). (0, x)) w.long ∙ sym (room_enough k (length s) k (0, k) l); bytes = w.bytes }
