-- After the reply 0 every row failed, so header and vertices can be read, and what is due is sound. Assumes nothing.
use mathlib.Core.Path.{◌≡◌, refl, sym, ap, ◌∙◌}
use mathlib.Core.Bool.{◌||◌}
use mathlib.Core.List.{List, ◌++◌}
use Prim.Native.Nat.{ℕ, zero, suc, ◌≤◌}
use native.Mathlib.Nat.{le_antisymm}
use native.Mathlib.Omega.{arith}
use borrow.Author.Tests.{ltb-false, eqb-false}
use lib.Dec.{ltb}
use lib.ListN.{length, take, drop}
use lib.Seq.{take-append_seam}
use Rattle.contacts.proofs.Allowed.{outside_most}
use Rattle.outline.specs.Outlines.{outline_bytes}
use Rattle.outline.specs.Stores.{edition_in, kind_in, edition_of, grade_in, count_in, length_in, path_in, posts_in, due_in, sound_of}
use Rattle.outline.specs.Theorems.{Bytes}
use Rattle.outline.specs.declared.Form.{Form}
use Rattle.outline.specs.declared.Form.TheVariants.{Stroke}
use Rattle.outline.proofs.ReadBack.{path_count_in, edition_again, same_is, kept_is_sound}
use Rattle.replies.specs.Replies.{grade_row, count_row, outside_row, room_row, written}
use Rattle.replies.proofs.Rows.{NoneHold, first-none, either}
use Rattle.heading.specs.StoreRows.{edition_row, kind_row}
use Rattle.checking.specs.OtherKind.{other_kind_row}
use Rattle.difference_laws.specs.Legible.{Legible}
use Rattle.difference_laws.proofs.SoundUnnoted.{legible_form, legible_suits, no_notes}
use Rattle.salvaging.specs.Salvaging.{cut_row, list_row, front_rows, past_rows, salvage_reply, salvage_out}
use Rattle.salvage_theorems.specs.AfterSalvage.{SalvagedIsSound, EmptyIsSound, SoundComesThrough}

pub rows_none : (s : List ℕ) (room words : ℕ) → (salvage_reply s room words).0 ≡ 0 → NoneHold (front_rows s ++ past_rows s room words)
unfolding salvage_reply front_rows past_rows edition_row kind_row other_kind_row grade_row count_row cut_row outside_row room_row list_row
rows_none s room words h = first-none _ _ (refl, (refl, (refl, (refl, (refl, (refl, (refl, (refl, (refl, tt))))))))) h

no_kind : (k : ℕ) → k ≤ 1 → (k ≡ 1 → ⊥) → k ≡ 0
no_kind zero l f = refl
no_kind (suc zero) l f = absurd (f refl)
no_kind (suc (suc k)) l f = absurd (omega arith)

pub legible : (s : List ℕ) (room words : ℕ) → Bytes s → (salvage_reply s room words).0 ≡ 0 → Legible s
unfolding front_rows past_rows edition_row kind_row other_kind_row grade_row count_row cut_row outside_row
legible s room words b h =
    let r = rows_none s room words h in
    let e = either (ltb (length s) 24) (ltb (edition_in s) 1 || ltb 2 (edition_in s)) r.0 in
    let f = either (ltb (edition_in s) 1) (ltb 2 (edition_in s)) e.1 in
    let g = either (ltb (grade_in s) 1) (ltb 8 (grade_in s)) r.1.1.1.0 in
    let vs = path_in s in
    record {
      bytes = b;
      edition = edition_again (edition_in s) (ltb-false _ _ f.0) (ltb-false _ _ f.1);
      kind = no_kind (kind_in s) (ltb-false _ _ r.1.0) (eqb-false (kind_in s) 1 r.1.1.0);
      long = ltb-false _ _ r.1.1.1.1.1.0;
      within = record {
        low = ltb-false _ _ g.0;
        high = ltb-false _ _ g.1;
        count = omega (arith, path_count_in s, ltb-false 4096 (count_in s) r.1.1.1.1.0);
        inside = le_antisymm (outside_most vs) (ltb-false _ _ r.1.1.1.1.1.1.0);
      };
    }

made : (s out : List ℕ) (words : ℕ) → (salvage_reply s (length out) words).0 ≡ 0 → salvage_out s out words ≡ due_in s ++ drop (length (due_in s)) out
unfolding salvage_out written
made s out words h = rw (h, written)

pub salvaged_is_sound : SalvagedIsSound
unfolding due_in
salvaged_is_sound s out words b h =
    let l = legible s (length out) words b h in
    let f = legible_form s l in
    let rest = drop (length (due_in s)) out in
    let e : salvage_out s out words ≡ outline_bytes (Stroke (edition_of (edition_in s))) (grade_in s) (posts_in s) (path_in s) ++ rest = made s out words h ∙ ap (λ (o : Form). outline_bytes o (grade_in s) (posts_in s) (path_in s) ++ rest) f in
    let k = kept_is_sound (Stroke (edition_of (edition_in s))) (grade_in s) (posts_in s) (path_in s) rest (l.within, legible_suits s l) in
    rw e (k.0 ∙ sym f, k.1, k.2, k.3, k.5)

pub empty_is_sound : EmptyIsSound
empty_is_sound s room words b h = no_notes s (legible s room words b h)

pub sound_comes_through : SoundComesThrough
unfolding sound_of
sound_comes_through s out words h q =
    ap (take (length (due_in s))) (made s out words h) ∙ take-append_seam (due_in s) (drop (length (due_in s)) out) ∙ sym (same_is (take (length_in s) s) (due_in s) q)
