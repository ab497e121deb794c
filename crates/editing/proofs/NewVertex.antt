-- Another vertex in the path of a store: among its numbers, within the limits, and what replace then replies. Assumes nothing.
use Rattle.std.specs.Prelude.{Result, Err}
use mathlib.Core.Path.{◌≡◌, refl, sym, ap, ◌∙◌}
use mathlib.Core.Bool.{true, false}
use mathlib.Core.List.{List, [], ◌∷◌, ◌++◌}
use Prim.Native.Nat.{ℕ, zero, suc, ◌+◌, ◌*◌, ◌^◌, ◌≤◌, ◌<◌}
use native.Mathlib.Numerals.{add-one, add-two}
use native.Mathlib.Omega.{arith}
use borrow.Author.Tests.{le-leb, lt-leb}
use lib.IntN.{ℤ}
use lib.ListN.{length, set, take, drop, length-set, take-append-drop}
use lib.Seq.{take_at}
use mir.Syntax.{w32}
use mir.Val.{to_z, of_z}
use mir.Facts.{to_z-of_z}
use Rattle.whole.specs.Sizes.{Size}
use Rattle.whole.proofs.Sizes.{size_fits}
use Rattle.runs.specs.Runs.{spread, over, Runs, put}
use Rattle.plane.proofs.Products.{bits, back}
use Rattle.contacts.specs.Bounds.{Inside}
use Rattle.contacts.specs.Limits.{allowed_of}
use Rattle.paths.specs.Paths.{path_of, vertex_numbers, path_numbers, Within}
use Rattle.contacts.specs.declared.Vertex.{Vertex}
use Rattle.outline.specs.Layout.{front_bytes, length_of}
use Rattle.outline.proofs.ShownPosts.{posts_front}
use Rattle.outline.specs.Stores.{form_in, grade_in, length_in, path_in, posts_of, posts_in}
use Rattle.replies.specs.Replies.{first_row, draw_grade_row, index_row, new_row}
use Rattle.heading.specs.StoreRows.{store_rows}
use Rattle.editing.specs.Replacing.{replaced_of, replace_reply, replace_out, Replaces}
use Rattle.replies.specs.Refusals.{reply_of}
use Rattle.keeping.specs.Keeping.{write_rows}
use Rattle.keeping.specs.Rewriting.{Rewrites}
use Rattle.checking.specs.Known.{Known}
use Rattle.checking.proofs.KnownStore.{known_count, known_long}
use Rattle.replies.specs.declared.Refusal.TheVariants.{Grade, NoVertex, Outside}
use Rattle.replies.specs.declared.Refusal.{Refusal}
use Rattle.outline.proofs.ReadBack.{numbers_count}
use Rattle.editing.proofs.Changed.{within_changed}
use Rattle.replies.proofs.Rows.{rows_append, first_holds, first_skip, grade_drawn, grade_retired, refused_written}
use Rattle.heading.proofs.Shown.{path_back}
use Rattle.outline.proofs.Parts.{radius_size}
use Rattle.outline.specs.declared.Edition.{Edition}
use Rattle.outline.specs.declared.Form.TheVariants.{Stroke}

-- ---- a path and its numbers

numbers_set : (vs : List Vertex) (k : ℕ) (v : Vertex) (rest : List ℤ) → k < length vs → over put (path_numbers vs ++ rest) (3 * k) (vertex_numbers v) ≡ path_numbers (set vs k v) ++ rest
unfolding over path_numbers vertex_numbers spread
numbers_set [] k v rest h = absurd (omega arith)
numbers_set (u ∷ vs) zero v rest h = refl
numbers_set (u ∷ vs) (suc k) v rest h =
    let e : 3 * suc k ≡ suc (suc (suc (3 * k))) = omega arith in
    rw e (ap (λ (l : List ℤ). u.x ∷ u.y ∷ u.radius ∷ l) (numbers_set vs k v rest (omega arith)))

run_one : {l l₁ : List ℤ} {a b : ℕ} (v : Vertex) → Runs put vertex_numbers l a (v ∷ []) l₁ b → l₁ ≡ over put l a (vertex_numbers v)
unfolding spread vertex_numbers
run_one v p = p.out

-- p are numbers whose first 3 n are those of the vertices vs
numbers_changed : (vs : List Vertex) (k : ℕ) (v : Vertex) (p : List ℤ) {p₁ : List ℤ} {n e w : ℕ} → n ≡ length vs → take (3 * n) p ≡ path_numbers vs → k < n
    → Runs put vertex_numbers p (3 * k) (v ∷ []) p₁ w → e ≡ 3 * n → take e p₁ ≡ path_numbers (set vs k v)
numbers_changed vs k v p {p₁} {n} {e} en f h q ee =
    let a : p ≡ path_numbers vs ++ drop (3 * n) p = sym (take-append-drop (3 * n) p) ∙ ap (λ (l : List ℤ). l ++ drop (3 * n) p) f in
    let b : p₁ ≡ path_numbers (set vs k v) ++ drop (3 * n) p =
    run_one v q ∙ ap (λ (l : List ℤ). over put l (3 * k) (vertex_numbers v)) a ∙ numbers_set vs k v (drop (3 * n) p) (omega arith) in
    let c : length (path_numbers (set vs k v)) ≡ e = omega (arith, numbers_count (set vs k v), length-set vs k v) in
    ap (λ (l : List ℤ). take e l) b ∙ take_at (path_numbers (set vs k v)) (drop (3 * n) p) e c

-- ---- three numbers stored

abbrev number : ℤ → ℤ
number r = to_z w32 (of_z w32 r)

narrowed : {r z : ℤ} → Size (2 ^ 28) z → r ≡ bits z → number r ≡ z
narrowed h e = rw (e, back (size_fits (2 ^ 28) _ _ h tt)) (to_z-of_z (size_fits (2 ^ 28) w32 _ h tt))

-- x, y and r are what the code has for the three numbers
pub vertex_put : {l₀ l₁ l₂ l₃ : List ℤ} {at : ℕ} (v : Vertex) {x y r : ℤ} → Inside v → x ≡ bits v.x → y ≡ bits v.y → r ≡ bits v.radius
    → l₁ ≡ set l₀ at (number x) → l₂ ≡ set l₁ (at + 1) (number y) → l₃ ≡ set l₂ (at + 2) (number r) → Runs put vertex_numbers l₀ at (v ∷ []) l₃ (at + 3)
unfolding spread over vertex_numbers
vertex_put {at = at} v h ex ey er p q s =
    record { out = cc (add-one at, add-two at, narrowed h.x ex, narrowed h.y ey, narrowed (radius_size h.radius) er); pos = refl }

-- ---- the rows of a change

module _ {s : List ℕ} {p : List ℤ} {d : Edition} {g n m : ℕ} (h : Known s p d g n m) where
  -- the posts as the code has them
  pub known_posts : {l : List ℕ} (l₀ : List ℕ) {k : ℕ} → l ≡ posts_of (Stroke d) n s ++ drop n l₀ → k ≡ n → take k l ≡ posts_in s
  unfolding posts_in
  known_posts l₀ q z = posts_front d s n l₀ q z ∙ (λ i. posts_of (sym h.form i) (h.vertices i) s)

  pub known_front : front_bytes (Stroke d) n ≤ length s
  known_front = omega (arith, known_long h, h.long)

  pub change_retired : (k : ℕ) (v : Vertex) → g < 2 → Replaces s k v (Err (Grade g)) s
  unfolding replace_reply replace_out draw_grade_row
  change_retired k v l =
      let e : (draw_grade_row (grade_in s)).0 ≡ true = rw h.grade at (grade_retired l) in
      let r : (3, g) ≡ replace_reply s k v =
      ap (λ (x : ℕ). (3, x)) h.grade ∙ sym (rows_append (store_rows s) _ _ ∙ h.passed _ ∙ h.other _ _ ∙ first_holds (draw_grade_row (grade_in s)) _ _ e) in
      record { reply = r; store = refused_written (Grade g) _ s r }

  module _ (low : 2 ≤ g) (k : ℕ) (v : Vertex) where
    drawn : (draw_grade_row (grade_in s)).0 ≡ false
    drawn = rw h.grade at (grade_drawn low (rw h.grade h.within.high))

    after : replace_reply s k v ≡ first_row (index_row n k ∷ new_row v k ∷ write_rows (form_in s) (grade_in s) (posts_in s) (set (path_in s) k v) (length s)) (0, length (replaced_of s k v))
    unfolding replace_reply
    after = rows_append (store_rows s) _ _ ∙ h.passed _ ∙ h.other _ _ ∙ first_skip (draw_grade_row (grade_in s) ∷ []) _ _ (drawn, tt) ∙ rw (known_count h)

    pub change_none : n ≤ k → Replaces s k v (Err (NoVertex k)) s
    unfolding replace_out first_row index_row
    change_none l =
        let r : (9, k) ≡ replace_reply s k v = sym (after ∙ rw (le-leb n k l, first_row)) in
        record { reply = r; store = refused_written (NoVertex k) _ s r }

    module _ (l : k < n) where
      -- the path's numbers with the vertex put among them
      module _ {p₁ : List ℤ} {e w : ℕ} (q : Runs put vertex_numbers p (3 * k) (v ∷ []) p₁ w) (ee : e ≡ 3 * n) where
        changed : take e p₁ ≡ path_numbers (set (path_in s) k v)
        changed = numbers_changed (path_in s) k v p (sym (known_count h)) h.path l q ee

        pub changed_path : path_of (take e p₁) ≡ set (path_in s) k v
        changed_path = ap path_of changed ∙ path_back (set (path_in s) k v)

        pub changed_count : n ≡ length (path_of (take e p₁))
        changed_count = sym (known_count h) ∙ sym (length-set (path_in s) k v) ∙ ap length (sym changed_path)

        pub changed_within : allowed_of v ≡ true → Within g (path_of (take e p₁))
        changed_within a = rw changed_path (within_changed g (path_in s) k v (rw h.grade h.within) a)

      pub change_outside : allowed_of v ≡ false → Replaces s k v (Err (Outside k)) s
      unfolding replace_out first_row index_row new_row
      change_outside a =
          let r : (4, k) ≡ replace_reply s k v = sym (after ∙ rw (lt-leb n k l, first_row, a, first_row)) in
          record { reply = r; store = refused_written (Outside k) _ s r }

      pub change_done : (qs : List ℕ) (us : List Vertex) {old : ℕ} {r : Result ℕ Refusal} {s' : List ℕ} → allowed_of v ≡ true → qs ≡ posts_in s → us ≡ set (path_in s) k v → old ≡ length_of (Stroke d) n m
          → Rewrites s (Stroke d) g qs us old r s' → Replaces s k v r s'
      unfolding replaced_of replace_out first_row index_row new_row
      change_done qs us {r = r} {s' = s'} al eq eu eo w =
          let w' : Rewrites s (form_in s) (grade_in s) (posts_in s) (set (path_in s) k v) (length_in s) r s' = rw h.form (rw (h.grade, eq, eu, eo ∙ known_long h) at w) in
          let f : reply_of r ≡ replace_reply s k v = w'.reply ∙ sym (after ∙ rw (lt-leb n k l, first_row, al, first_row)) in
          record { reply = f; store = rw f at w'.bytes }
