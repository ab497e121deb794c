-- What a store asks for of own numbers is enough for what its header says; and what a caller has of them is what it asks for. Assumes nothing.
use mathlib.Core.Path.{◌≡◌, refl, sym, ap, ◌∙◌}
use mathlib.Core.Bool.{Bool, true, false, ◌&&◌}
use mathlib.Core.List.{List}
use Prim.Native.Nat.{ℕ, ◌*◌, ◌≤◌, ◌<◌}
use native.Mathlib.Nat.{le_trans}
use native.Mathlib.Omega.{arith}
use borrow.Author.Tests.{ltb-true, lt-ltb, le-ltb}
use lib.Dec.{ltb}
use lib.IntN.{ℤ}
use lib.ListN.{length}
use Rattle.turning.specs.Bounds.{Radius}
use Rattle.paths.specs.Paths.{path_of, Within}
use Rattle.kerb_paths.specs.Points.{kerb_path}
use Rattle.comparing.specs.Compares.{lent_path}
use Rattle.kerb.specs.declared.Style.{Style}
use Rattle.words.specs.Words.{word_at}
use Rattle.outline.specs.Layout.{kind_word, front_bytes}
use Rattle.outline.specs.Stores.{kind_in, grade_in, count_in}
use Rattle.outline.specs.declared.Edition.{Edition}
use Rattle.outline.specs.declared.Form.{Form}
use Rattle.outline.specs.declared.Form.TheVariants.{Stroke, Kerb}
use Rattle.own_room.specs.OwnRoom.{step_numbers}
use Rattle.own_room.proofs.StepRooms.{numbers_few, numbers_any}
use Rattle.kerb_outline.specs.Remaining.{piece_numbers}
use Rattle.heading.specs.Heads.{Head}
use Rattle.heading.specs.Shows.{lent_width}
use Rattle.heading.specs.declared.Header.{Header}
use Rattle.checking.specs.StoreRoom.{small_store, store_path, store_posts, store_own}
use Rattle.checking.proofs.StoreReads.{header_long, header_few, kerb_radius}

-- ---- its tests, as the code makes them: each word is that of the store

module _ (s : List ℕ) (long : 24 ≤ length s) {kind : ℕ} (ek : kind ≡ word_at s 1) where
  pub small_kind : 1 ≤ kind → small_store s ≡ false
  unfolding small_store kind_in
  small_kind k = rw (le-ltb (length s) 24 long, ← ek, le-ltb kind 1 k)

  pub small_grade : kind < 1 → {grade : ℕ} → grade ≡ word_at s 2 → ltb grade 5 ≡ false → small_store s ≡ false
  unfolding small_store kind_in grade_in
  small_grade stroke {grade} eg g = rw (le-ltb (length s) 24 long, ← ek, lt-ltb kind 1 stroke, ← eg, g)

-- ---- what a header says then

both : (a b : Bool) → (a && b) ≡ true → (a ≡ true) × (b ≡ true)
both true b e = (refl, e)
both false b e = absurd (let z : ◌≡◌ {A = ℕ} 0 1 = ap (λ (x : Bool). elim x as (λ _. ℕ) [ true ↦ 1 | false ↦ 0 ]) e in omega arith)

front_some : (f : Form) (n : ℕ) → 24 ≤ front_bytes f n
front_some (Stroke e) n = omega arith
front_some (Kerb y) n = omega arith

module _ {s : List ℕ} {h : Header} (H : Head s h) where
  long : 24 ≤ length s
  long = le_trans (front_some h.form h.n) (header_long H)

  small_told : small_store s ≡ true → (kind_in s ≤ 0) × (grade_in s ≤ 4) × (count_in s ≤ 64)
  unfolding small_store
  small_told e =
      let a : (ltb (kind_in s) 1 && (ltb (grade_in s) 5 && ltb (count_in s) 65)) ≡ true = rw (le-ltb (length s) 24 long) at e in
      let b = both (ltb (kind_in s) 1) (ltb (grade_in s) 5 && ltb (count_in s) 65) a in
      let c = both (ltb (grade_in s) 5) (ltb (count_in s) 65) b.1 in
      (omega (arith, ltb-true (kind_in s) 1 b.0), omega (arith, ltb-true (grade_in s) 5 c.0), omega (arith, ltb-true (count_in s) 65 c.1))

  -- of a small store with vertices of three numbers
  narrow : (f : Form) {n : ℕ} → n ≤ 64 → lent_width f * n ≤ 192
  narrow (Stroke e) l = omega (arith, l)
  narrow (Kerb y) l = omega (arith, l)

  pub path_enough : {w k : ℕ} → w ≡ lent_width h.form → store_path s ≤ k → w * h.n ≤ k
  unfolding store_path
  path_enough {w} {k} ew = go (small_store s) refl
    where
      go : (x : Bool) → small_store s ≡ x → elim x as (λ _. ℕ) [ true ↦ 192 | false ↦ 12288 ] ≤ k → w * h.n ≤ k
      go true e l = rw ew (le_trans (narrow h.form (omega (arith, H.vertices, (small_told e).2))) l)
      go false e l = le_trans (header_few H ew) l

  pub posts_enough : {k : ℕ} → store_posts s ≤ k → h.n ≤ k
  unfolding store_posts
  posts_enough {k} = go (small_store s) refl
    where
      go : (x : Bool) → small_store s ≡ x → elim x as (λ _. ℕ) [ true ↦ 64 | false ↦ 4096 ] ≤ k → h.n ≤ k
      go true e l = omega (arith, H.vertices, (small_told e).2, l)
      go false e l = omega (arith, H.vertices, H.headed.count, l)

  pub stroke_enough : {k : ℕ} → store_own s ≤ k → step_numbers h.grade ≤ k
  unfolding store_own
  stroke_enough {k} = go (small_store s) refl
    where
      go : (x : Bool) → small_store s ≡ x → elim x as (λ _. ℕ) [ true ↦ 592 | false ↦ 8272 ] ≤ k → step_numbers h.grade ≤ k
      go true e l = numbers_few (omega (arith, H.grade, (small_told e).1)) l
      go false e l = numbers_any h.grade l

  pub kerb_enough : {y : Style} {k : ℕ} → h.form ≡ Kerb y → store_own s ≤ k → piece_numbers ≤ k
  unfolding store_own
  kerb_enough {k = k} f = go (small_store s) refl
    where
      kind : kind_in s ≡ 1
      kind = H.headed.kind ∙ ap kind_word (sym H.form ∙ f)

      go : (x : Bool) → small_store s ≡ x → elim x as (λ _. ℕ) [ true ↦ 592 | false ↦ 8272 ] ≤ k → piece_numbers ≤ k
      go true e l = absurd (omega (arith, kind, (small_told e).0))
      go false e l = omega (arith, l)

-- ---- what comparing asks for, by the form: p are the vertices as numbers, and k the own ones

module _ {s : List ℕ} {h : Header} (H : Head s h) (p : List ℤ) (P : (h.n ≡ length (lent_path h.form p)) × Within h.grade (lent_path h.form p)) {k : ℕ} (room : store_own s ≤ k) where
  pub stroke_compares : {e : Edition} → h.form ≡ Stroke e → (h.n ≡ length (path_of p)) × Within h.grade (path_of p) × (step_numbers h.grade ≤ k)
  stroke_compares f = let q = rw f at P in (q.0, q.1, stroke_enough H room)

  pub kerb_compares : {y : Style} → h.form ≡ Kerb y → (h.n ≡ length (kerb_path y.radius p)) × Within h.grade (kerb_path y.radius p) × Radius y.radius × (piece_numbers ≤ k)
  kerb_compares f = let q = rw f at P in (q.0, q.1, kerb_radius H f, kerb_enough H f room)

-- ---- what a caller has: of a small store few, and of any store many

module _ (s : List ℕ) (e : small_store s ≡ true) where
  pub few_path : {k : ℕ} → 192 ≤ k → store_path s ≤ k
  unfolding store_path
  few_path l = rw (e, store_path) l

  pub few_posts : {k : ℕ} → 64 ≤ k → store_posts s ≤ k
  unfolding store_posts
  few_posts l = rw (e, store_posts) l

  pub few_own : {k : ℕ} → 592 ≤ k → store_own s ≤ k
  unfolding store_own
  few_own l = rw (e, store_own) l

most_of_lem : (x : Bool) {a b k : ℕ} → a ≤ b → b ≤ k → elim x as (λ _. ℕ) [ true ↦ a | false ↦ b ] ≤ k
most_of_lem true h l = le_trans h l
most_of_lem false h l = l

module _ (s : List ℕ) where
  pub many_path : {k : ℕ} → 12288 ≤ k → store_path s ≤ k
  unfolding store_path
  many_path l = most_of_lem (small_store s) (omega arith) l

  pub many_posts : {k : ℕ} → 4096 ≤ k → store_posts s ≤ k
  unfolding store_posts
  many_posts l = most_of_lem (small_store s) (omega arith) l

  pub many_own : {k : ℕ} → 8272 ≤ k → store_own s ≤ k
  unfolding store_own
  many_own l = most_of_lem (small_store s) (omega arith) l
