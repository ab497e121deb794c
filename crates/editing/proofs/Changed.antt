-- After the reply 0 every row failed, so the path with the new vertex is within the limits, and its outline is sound. Assumes nothing.
use mathlib.Core.Path.{◌≡◌, refl, sym, ap, subst, ◌∙◌}
use mathlib.Core.Bool.{true}
use mathlib.Core.List.{List, [], ◌∷◌, ◌++◌, append_assoc}
use Prim.Native.Nat.{ℕ, zero, suc, ◌-◌, ◌≤◌, ◌<◌}
use native.Mathlib.Omega.{arith}
use lib.ListN.{length, drop, set, replicate, length-set}
use borrow.Author.Tests.{not-false}
use Rattle.contacts.specs.Limits.{allowed_of, first_outside}
use Rattle.contacts.specs.declared.Vertex.{Vertex}
use Rattle.locality.proofs.Locality.{earlier_kept, reach_kept}
use Rattle.outline.specs.Outlines.{edges_for, outline_bytes}
use Rattle.outline.specs.Theorems.{Suits, Formed}
use Rattle.outline.specs.Stores.{edition_in, edition_of, form_in, grade_in, length_in, path_in, posts_in, bodies_in, sound_of}
use Rattle.heading.specs.StoreRows.{store_rows}
use Rattle.checking.specs.OtherKind.{other_kind_row}
use Rattle.checking.proofs.OtherKinds.{not_other}
use Rattle.checking.proofs.StorePassed.{store_coded, passed_sound, passed_within}
use Rattle.replies.specs.Replies.{Reply, draw_grade_row, index_row, new_row, empty_row, room_row, written}
use Rattle.editing.specs.Replacing.{replaced_of, replace_reply, replace_out, ReplacedIsSound, StoreKept}
use Rattle.paths.specs.Paths.{edges_of, Within}
use Rattle.keeping.specs.Keeping.{write_rows}
use Rattle.replies.proofs.Rows.{NoneHold, first-none, rows_zero, grade_from, empty_not}
use Rattle.contacts.proofs.Allowed.{inside_first}
use Rattle.outline.proofs.ReadBack.{sound_suits, suits_other, kept_is_sound}
use Rattle.outline.specs.declared.Form.{Form}
use Rattle.outline.specs.declared.Form.TheVariants.{Stroke}

-- ---- the path

outside_set : (vs : List Vertex) (k : ℕ) (v : Vertex) → allowed_of v ≡ true → first_outside vs ≡ length vs → first_outside (set vs k v) ≡ length vs
unfolding first_outside
outside_set [] k v a h = refl
outside_set (u ∷ vs) zero v a h = rw (a, first_outside) (ap suc (inside_first u vs h).1)
outside_set (u ∷ vs) (suc k) v a h = rw ((inside_first u vs h).0, first_outside) (ap suc (outside_set vs k v a (inside_first u vs h).1))

-- ---- the call

pub replace_none : (s : List ℕ) (k : ℕ) (v : Vertex) → (replace_reply s k v).0 ≡ 0
    → NoneHold (store_rows s)
    × NoneHold (other_kind_row s ∷ draw_grade_row (grade_in s) ∷ index_row (length (path_in s)) k ∷ new_row v k ∷ write_rows (form_in s) (grade_in s) (posts_in s) (set (path_in s) k v) (length s))
unfolding replace_reply other_kind_row draw_grade_row index_row new_row write_rows empty_row room_row
replace_none s k v h =
    let r = rows_zero (store_rows s) _ _ (store_coded s) h in
    (r.0, first-none _ _ (refl, (refl, (refl, (refl, (refl, (refl, tt)))))) (ap (λ (x : Reply). x.0) (sym r.1) ∙ h))

-- the store's own path is within the limits, and so is it with a vertex that is allowed
pub within_store : (s : List ℕ) (k : ℕ) (v : Vertex) → (replace_reply s k v).0 ≡ 0 → Within (grade_in s) (path_in s)
within_store s k v h = passed_within s (replace_none s k v h).0

pub grade_store : (s : List ℕ) (k : ℕ) (v : Vertex) → (replace_reply s k v).0 ≡ 0 → 2 ≤ grade_in s
grade_store s k v h = (grade_from (grade_in s) (replace_none s k v h).1.1.0).0

pub within_changed : (g : ℕ) (vs : List Vertex) (k : ℕ) (v : Vertex) → Within g vs → allowed_of v ≡ true → Within g (set vs k v)
within_changed g vs k v h a = record {
  low = h.low;
  high = h.high;
  count = omega (arith, length-set vs k v, h.count);
  inside = outside_set vs k v a h.inside ∙ sym (length-set vs k v);
}

pub within_set : (s : List ℕ) (k : ℕ) (v : Vertex) → (replace_reply s k v).0 ≡ 0 → Within (grade_in s) (set (path_in s) k v)
unfolding new_row
within_set s k v h = within_changed (grade_in s) (path_in s) k v (within_store s k v h) (not-false _ (replace_none s k v h).1.1.1.1.0)

pub sound_store : (s : List ℕ) (k : ℕ) (v : Vertex) → (replace_reply s k v).0 ≡ 0 → sound_of s ≡ true
sound_store s k v h = passed_sound s (replace_none s k v h).0

-- the store is of a stroke
pub stroke_store : (s : List ℕ) (k : ℕ) (v : Vertex) → (replace_reply s k v).0 ≡ 0 → form_in s ≡ Stroke (edition_of (edition_in s))
stroke_store s k v h = not_other s (replace_none s k v h).1.0

-- its posts suit its path, and the path with the new vertex
pub formed_store : (s : List ℕ) (k : ℕ) (v : Vertex) → (replace_reply s k v).0 ≡ 0 → Formed (Stroke (edition_of (edition_in s))) (grade_in s) (posts_in s) (path_in s)
formed_store s k v h = (within_store s k v h, sound_suits s (edition_of (edition_in s)) (stroke_store s k v h) (sound_store s k v h))

pub formed_set : (s : List ℕ) (k : ℕ) (v : Vertex) → (replace_reply s k v).0 ≡ 0 → Formed (form_in s) (grade_in s) (posts_in s) (set (path_in s) k v)
formed_set s k v h =
    let e = edition_of (edition_in s) in
    let q : Suits (Stroke e) (posts_in s) (set (path_in s) k v) = suits_other e (posts_in s) (path_in s) (set (path_in s) k v) (length-set (path_in s) k v) (formed_store s k v h).1 in
    (within_set s k v h, subst (λ (f : Form). Suits f (posts_in s) (set (path_in s) k v)) (sym (stroke_store s k v h)) q)

-- the path with the new vertex has an edge where it has a vertex
pub some_set : (s : List ℕ) (k : ℕ) (v : Vertex) → (replace_reply s k v).0 ≡ 0 → 0 < length (set (path_in s) k v) → 0 < length (edges_of (grade_in s) (set (path_in s) k v))
unfolding write_rows
some_set s k v h = subst (λ (f : Form). 0 < length (set (path_in s) k v) → 0 < length (edges_for f (grade_in s) (set (path_in s) k v))) (stroke_store s k v h) (empty_not _ _ (replace_none s k v h).1.1.1.1.1.0)

pub out_is : (s : List ℕ) (k : ℕ) (v : Vertex) → (replace_reply s k v).0 ≡ 0
    → replace_out s k v ≡ outline_bytes (form_in s) (grade_in s) (posts_in s) (set (path_in s) k v) ++ (replicate (length_in s - length (replaced_of s k v)) 0 ++ drop (length (replaced_of s k v ++ replicate (length_in s - length (replaced_of s k v)) 0)) s)
unfolding replace_out written replaced_of
out_is s k v h = rw (h, written) (append_assoc (replaced_of s k v) (replicate (length_in s - length (replaced_of s k v)) 0) _)

pub replaced_is_sound : ReplacedIsSound
replaced_is_sound s k v h =
    let b = kept_is_sound (form_in s) (grade_in s) (posts_in s) (set (path_in s) k v) (replicate (length_in s - length (replaced_of s k v)) 0 ++ drop (length (replaced_of s k v ++ replicate (length_in s - length (replaced_of s k v)) 0)) s) (formed_set s k v h) in
    (rw (out_is s k v h) b.1, rw (out_is s k v h) b.3, rw (out_is s k v h) b.5, rw (out_is s k v h) b.0, rw (out_is s k v h) b.2)

-- it is of a stroke again
pub stroke_replaced : (s : List ℕ) (k : ℕ) (v : Vertex) → (replace_reply s k v).0 ≡ 0 → form_in (replace_out s k v) ≡ Stroke (edition_of (edition_in s))
stroke_replaced s k v h = (replaced_is_sound s k v h).3 ∙ stroke_store s k v h

pub store_kept : StoreKept
unfolding bodies_in
store_kept s k v h =
    let r = replaced_is_sound s k v h in
    (rw (r.0, r.1) (earlier_kept (grade_in s) (path_in s) k v), λ j. rw (r.0, r.1) (reach_kept (grade_in s) (path_in s) k v j))
