-- The theorems through the calls: after the reply 0 no row held, so what stands in lent bytes is an outline within the limits, and what is known of
-- outlines holds of it. Assumes nothing.
use mathlib.Core.Path.{◌≡◌, refl, sym, ap, ◌∙◌}
use mathlib.Core.List.{List, [], ◌∷◌, ◌++◌, append_assoc}
use Prim.Native.Nat.{ℕ, ◌+◌, ◌-◌, ◌*◌, ◌%◌, ◌≤◌, ◌<◌}
use native.Mathlib.Omega.{arith}
use borrow.Author.Tests.{leb-false}
use lib.IntN.{ℤ, pos}
use lib.ListN.{length, get_or, take, drop, set, replicate, length-append, length-replicate, length-set}
use lib.Seq.{get_or-take, get_or-drop, take_at, drop_at}
use Rattle.runs.specs.Runs.{spread}
use Rattle.locality.specs.Local.{reach_of}
use Rattle.paths.specs.Paths.{path_of, vertex_numbers, path_numbers, Within}
use Rattle.contacts.specs.declared.Vertex.{Vertex}
use Rattle.turning.specs.declared.Edge.{Edge}
use Rattle.words.specs.Words.{bytes_of}
use Rattle.outline.specs.Outlines.{body_words, outline_bytes}
use Rattle.outline.specs.Stores.{edition_in, edition_of, grade_in, path_in, posts_in, bodies_in, body_bytes_in}
use Rattle.replies.specs.Replies.{Reply, index_row}
use Rattle.heading.specs.StoreRows.{store_rows}
use Rattle.keeping.specs.Keeping.{keep_reply, keep_out, plain_posts}
use Rattle.editing.specs.Replacing.{replaced_of, replace_reply, replace_out}
use Rattle.theorems.specs.Theorems.{KeepRead, KeepPostsRead, PlainSuits, KeepKerbRead, ReplacedIsKept, BytesKept, NumberKeeps}
use Rattle.replies.proofs.Rows.{first_skip, none_last}
use Rattle.kerb_paths.specs.Points.{kerb_path}
use Rattle.kerb_paths.proofs.PointsAhead.{point_count}
use Rattle.heading.specs.Shows.{point_numbers}
use Rattle.kerb_keeping.specs.KerbKeeping.{kerb_form, kerb_bytes}
use Rattle.kerb_keeping.proofs.KerbKept.{kerb_pairs, kerb_formed, kerb_out}
use Rattle.keeping.proofs.PathKept.{path_is_kept, keep_triples, keep_within, keep_out_lem}
use Rattle.reading.proofs.KeptRead.{kept_is_read}
use Rattle.reading.proofs.PostsAnswers.{kept_posts_are_read}
use Rattle.outline.proofs.ReadBack.{numbers_count, plain_suits}
use Rattle.editing.proofs.Changed.{replace_none, within_store, grade_store, within_set, some_set, sound_store, stroke_store, stroke_replaced, out_is, replaced_is_sound, store_kept}
use Rattle.heading.proofs.Shown.{path_back}
use Rattle.outline.proofs.BodiesInBytes.{body_bytes_in_lem}
use Rattle.outline.specs.declared.Edition.TheVariants.{Second}
use Rattle.outline.specs.declared.Form.TheVariants.{Stroke}
use Rattle.reaching.proofs.TheNumber.{number_is, lesser}

-- ---- the bytes of a body in a sound store

module _ (s : List ℕ) (k : ℕ) (v : Vertex) (h : (replace_reply s k v).0 ≡ 0) where
  -- where a body stays, its bytes do
  bytes_stay : (i : ℕ) → i ≤ length (path_in s) → get_or (bodies_in (replace_out s k v)) i [] ≡ get_or (bodies_in s) i [] → body_bytes_in (replace_out s k v) i ≡ body_bytes_in s i
  bytes_stay i l e =
      let r = replaced_is_sound s k v h in
      let w : Within (grade_in (replace_out s k v)) (path_in (replace_out s k v)) = rw (r.0, r.1) (within_set s k v h) in
      let n : i ≤ length (path_in (replace_out s k v)) = rw (r.1, length-set (path_in s) k v) l in
      body_bytes_in_lem (replace_out s k v) i (edition_of (edition_in s)) (stroke_replaced s k v h) w r.2 n
      ∙ ap (λ (es : List Edge). bytes_of (body_words es)) e
      ∙ sym (body_bytes_in_lem s i (edition_of (edition_in s)) (stroke_store s k v h) (within_store s k v h) (sound_store s k v h) l)

pub bytes_kept : BytesKept
unfolding index_row
bytes_kept s k v h =
    let kept = store_kept s k v h in
    let old = bodies_in s in
    let new = bodies_in (replace_out s k v) in
    let few : k < length (path_in s) = leb-false _ _ (replace_none s k v h).1.1.1.0 in (
      λ i l. bytes_stay s k v h i (omega arith) (sym (get_or-take k new i [] l) ∙ ap (λ (bs : List (List Edge)). get_or bs i []) kept.0 ∙ get_or-take k old i [] l),
      λ far i l m.
          let j = reach_of (path_in s) k + 1 in
          let e : j + (i - j) ≡ i = omega arith in
          bytes_stay s k v h i m
          (ap (λ (n : ℕ). get_or new n []) (sym e) ∙ sym (get_or-drop j new (i - j) []) ∙ ap (λ (bs : List (List Edge)). get_or bs (i - j) []) (kept.1 far) ∙ get_or-drop j old (i - j) [] ∙ ap (λ (n : ℕ). get_or old n []) e),
    )

-- ---- what keep wrote

numbers_back : (l : List ℤ) → length l % 3 ≡ 0 → path_numbers (path_of l) ≡ l
unfolding path_of path_numbers vertex_numbers spread
numbers_back [] h = refl
numbers_back (x ∷ []) h = absurd (omega arith)
numbers_back (x ∷ y ∷ []) h = absurd (omega arith)
numbers_back (x ∷ y ∷ r ∷ l) h = ap (λ (m : List ℤ). x ∷ y ∷ r ∷ m) (numbers_back l (omega arith))

pub keep_read : KeepRead
unfolding path_numbers
keep_read path ps g out room u h l =
    let vs = path_of path in
    let b : path_numbers vs ≡ path = numbers_back path (keep_triples path ps g (length out) h) in
    let n : 3 * length vs ≤ length room = omega (arith, numbers_count vs, ap length b) in
    let r = kept_is_read (Stroke Second) g ps vs (drop (length (outline_bytes (Stroke Second) g ps vs)) out) room (keep_within path ps g (length out) h, u) n in
    rw (keep_out_lem path ps g out h) (r.0, r.1, r.2, rw b at r.3)

pub keep_posts_read : KeepPostsRead
keep_posts_read path ps g out room u h l =
    rw (keep_out_lem path ps g out h) (kept_posts_are_read Second g ps (path_of path) (drop (length (outline_bytes (Stroke Second) g ps (path_of path))) out) room (keep_within path ps g (length out) h, u) l)

pub plain_posts_suit : PlainSuits
unfolding plain_posts
plain_posts_suit path = plain_suits (path_of path)

pairs_back : (r : ℤ) (l : List ℤ) → length l % 2 ≡ 0 → spread point_numbers (kerb_path r l) ≡ l
unfolding kerb_path point_numbers spread
pairs_back r [] h = refl
pairs_back r (x ∷ []) h = absurd (omega arith)
pairs_back r (x ∷ y ∷ l) h = ap (λ (m : List ℤ). x ∷ y ∷ m) (pairs_back r l (omega arith))

pub keep_kerb_read : KeepKerbRead
unfolding kerb_bytes
keep_kerb_read l g r j c out room h k =
    let vs = kerb_path (pos r) l in
    let f = kerb_form r j c in
    let b : spread point_numbers vs ≡ l = pairs_back (pos r) l (kerb_pairs l g r j c (length out) h) in
    let n : 2 * length vs ≤ length room = omega (arith, point_count (pos r) l, k) in
    let q = kept_is_read f g [] vs (drop (length (outline_bytes f g [] vs)) out) room (kerb_formed l g r j c (length out) h) n in
    rw (kerb_out l g r j c out h) (q.0, q.1, q.2, rw b at q.3)

-- ---- a replaced store and keep

replaced_long : (s : List ℕ) (k : ℕ) (v : Vertex) {m : ℕ} → replace_reply s k v ≡ (0, m) → m ≡ length (replaced_of s k v)
unfolding replace_reply
replaced_long s k v e =
    let n = replace_none s k v (ap (λ (r : Reply). r.0) e) in
    ap (λ (r : Reply). r.1) (sym e ∙ first_skip (store_rows s) _ _ n.0 ∙ none_last _ _ n.1)

pub replaced_is_kept : ReplacedIsKept
unfolding replaced_of
replaced_is_kept s k v room m z h e l =
    let h₀ : (replace_reply s k v).0 ≡ 0 = ap (λ (r : Reply). r.0) h in
    let g = grade_in s in
    let vs = set (path_in s) k v in
    let path = path_numbers vs in
    let new = replaced_of s k v in
    let zeros = replicate {A = ℕ} z 0 in
    let n : length new ≡ m = sym (replaced_long s k v h) in
    let p : path_of path ≡ vs = path_back vs in
    let q : length path % 3 ≡ 0 = omega (arith, numbers_count vs) in
    let ps = posts_in s in
    let ro : replace_out s k v ≡ new ++ (zeros ++ drop (length (new ++ zeros)) s) = rw (e, ← n) (out_is s k v h₀) in
    let t : length (new ++ zeros) ≡ m + z = omega (arith, length-append new zeros, length-replicate {A = ℕ} z 0) in (
      ap (take m) ro ∙ take_at new _ m n,
      λ f.
          let b : outline_bytes (Stroke Second) g ps (path_of path) ≡ new = λ i. outline_bytes (sym f i) g ps (p i) in
          let kr : keep_reply path ps g (length room) ≡ (0, m) =
          path_is_kept path ps g (length room) q (grade_store s k v h₀) (rw p (within_set s k v h₀)) (rw p (some_set s k v h₀)) (omega (arith, ap length b)) ∙ ap (λ (x : ℕ). (0, x)) (ap length b ∙ n) in
          let ko : keep_out path ps g room ≡ new ++ drop (length new) room = rw b at (keep_out_lem path ps g room (ap (λ (r : Reply). r.0) kr)) in
          (kr, ap (take m) ro ∙ take_at new _ m n ∙ sym (ap (take m) ko ∙ take_at new _ m n)),
      ap (λ (x : List ℕ). take z (drop m x)) ro ∙ ap (take z) (drop_at new _ m n) ∙ take_at zeros _ z (length-replicate {A = ℕ} z 0),
      ap (drop (m + z)) (ro ∙ sym (append_assoc new zeros _)) ∙ drop_at (new ++ zeros) _ (m + z) t ∙ ap (λ (x : ℕ). drop x s) t,
    )

pub number_keeps : NumberKeeps
number_keeps s k j v e h =
    let kept = bytes_kept s k v h in (
      kept.0,
      λ l i m n.
          let f = number_is s k j e in
          let r : j ≡ reach_of (path_in s) k = f ∙ (lesser (path_in s) k).2 (omega arith) in
          kept.1 (omega arith) i (omega arith) n,
    )
