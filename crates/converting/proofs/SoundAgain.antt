-- After the reply 0 no row of convert held, so its outline is one within the limits and sound, of the same path. Assumes nothing.
use mathlib.Core.Path.{◌≡◌, refl, sym, ap, ◌∙◌}
use mathlib.Core.List.{List, [], ◌∷◌, ◌++◌, append_assoc}
use Prim.Native.Nat.{ℕ, ◌-◌, ◌≤◌}
use lib.ListN.{length, drop, replicate}
use Rattle.outline.specs.Stores.{form_in, length_in, path_in, posts_in}
use Rattle.outline.specs.Theorems.{Formed}
use Rattle.outline.proofs.ReadBack.{kept_is_sound}
use Rattle.replies.specs.Replies.{Reply, draw_grade_row, room_row, written}
use Rattle.replies.proofs.Rows.{NoneHold, first-none, first_skip, none_last, rows_zero, grade_from}
use Rattle.heading.specs.StoreRows.{store_rows}
use Rattle.checking.proofs.StorePassed.{store_coded, passed_formed}
use Rattle.converting.specs.Converting.{converted_of, convert_reply, convert_out, ConvertedIsSound}
use Rattle.converting.proofs.ConvertRows.{within_at}

module _ (s : List ℕ) (g : ℕ) (h : (convert_reply s g).0 ≡ 0) where
  abbrev new : List ℕ
  new = converted_of s g

  abbrev zeros : List ℕ
  zeros = replicate {A = ℕ} (length_in s - length new) 0

  convert_none : NoneHold (store_rows s) × NoneHold (draw_grade_row g ∷ room_row (length new) (length s) (length new) ∷ [])
  unfolding convert_reply draw_grade_row room_row
  convert_none =
      let r = rows_zero (store_rows s) _ _ (store_coded s) h in
      (r.0, first-none _ _ (refl, (refl, tt)) (ap (λ (x : Reply). x.0) (sym r.1) ∙ h))

  pub grade_named : (2 ≤ g) × (g ≤ 8)
  grade_named = grade_from g convert_none.1.0

  -- the number with the reply
  pub convert_long : convert_reply s g ≡ (0, length new)
  unfolding convert_reply
  convert_long = first_skip (store_rows s) _ _ convert_none.0 ∙ none_last _ _ convert_none.1

  pub formed_at : Formed (form_in s) g (posts_in s) (path_in s)
  formed_at = let f = passed_formed s convert_none.0 in (within_at f.0 grade_named.0 grade_named.1, f.1)

  pub converted_out : convert_out s g ≡ new ++ (zeros ++ drop (length (new ++ zeros)) s)
  unfolding convert_out written
  converted_out = rw (h, written) (append_assoc new zeros _)

pub converted_is_sound : ConvertedIsSound
unfolding converted_of
converted_is_sound s g h =
    let made = converted_of s g in
    let more = replicate {A = ℕ} (length_in s - length made) 0 in
    let b = kept_is_sound (form_in s) g (posts_in s) (path_in s) (more ++ drop (length (made ++ more)) s) (formed_at s g h) in
    rw (converted_out s g h) (b.1, b.3, b.5, b.0, b.2)
