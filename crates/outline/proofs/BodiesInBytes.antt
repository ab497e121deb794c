-- The bytes that a store's own counts mark off as a body: the counts are those of the path's bodies, and before a body stand header, table and the
-- bodies before it. Assumes nothing.
use mathlib.Core.Path.{◌≡◌, refl, sym, ap, subst, ◌∙◌}
use mathlib.Core.Bool.{Bool, true, false}
use mathlib.Core.List.{List, [], ◌∷◌, ◌++◌, append_assoc, append-nil}
use Prim.Native.Nat.{ℕ, zero, suc, ◌+◌, ◌*◌, ◌≤◌, ◌<◌}
use native.Mathlib.Nat.{le_antisymm}
use native.Mathlib.Omega.{arith}
use borrow.Author.Tests.{ltb-true, ltb-false}
use lib.Dec.{ltb}
use lib.ListN.{length, get_or, take, drop, length-append}
use lib.Seq.{take-suc, split_at, take_at, drop_at}
use Rattle.runs.specs.Runs.{spread}
use Rattle.runs.proofs.Laws.{spread-append}
use Rattle.turning.specs.declared.Edge.{Edge}
use Rattle.paths.specs.Paths.{bodies_of, joined, edges_of, Within}
use Rattle.contacts.specs.declared.Vertex.{Vertex}
use Rattle.outline.specs.Layout.{count_place, stroke_words, entry_at, edge_bytes, length_of}
use Rattle.outline.specs.declared.Edition.{Edition}
use Rattle.outline.specs.declared.Edition.TheVariants.{First, Second}
use Rattle.outline.specs.declared.Form.{Form}
use Rattle.outline.specs.declared.Form.TheVariants.{Stroke}
use Rattle.words.specs.Words.{four_bytes, bytes_of, words_in, word_at}
use Rattle.outline.specs.Outlines.{style_words, header_of, post_words, entry_of, table_of, body_words, parts_words, outline_words, outline_bytes}
use Rattle.outline.specs.Stores.{edition_in, edition_of, form_in, grade_in, count_in, length_in, path_in, posts_in, due_in, bodies_in, sound_of, edges_in, edges_before, body_bytes_in}
use Rattle.outline.proofs.ReadBack.{bodies_count, stroke_length, numbers_length, header_word, count_back, edition_is, sound_is, sound_suits}
use Rattle.outline.proofs.FormLengths.{entries_four}
use Rattle.outline.specs.Theorems.{Formed, BodyBytes}
use Rattle.words.proofs.Bytes.{bytes-length}
use Rattle.outline.proofs.Parts.{body-append}

-- ---- bodies one after another

joined-append : (bs cs : List (List Edge)) → joined (bs ++ cs) ≡ joined bs ++ joined cs
unfolding joined
joined-append [] cs = refl
joined-append (b ∷ bs) cs = ap (λ (es : List Edge). b ++ es) (joined-append bs cs) ∙ sym (append_assoc b (joined bs) (joined cs))

module _ (bs : List (List Edge)) (i : ℕ) (h : i < length bs) where
  joined_split : joined bs ≡ joined (take i bs) ++ (get_or bs i [] ++ joined (drop (suc i) bs))
  unfolding joined
  joined_split = ap joined (split_at bs i [] h) ∙ joined-append (take i bs) (get_or bs i [] ∷ drop (suc i) bs)

  joined_more : length (joined (take (suc i) bs)) ≡ length (joined (take i bs)) + length (get_or bs i [])
  unfolding joined
  joined_more =
      ap (λ (cs : List (List Edge)). length (joined cs)) (take-suc bs i [] h) ∙ ap length (joined-append (take i bs) (get_or bs i [] ∷ []))
      ∙ length-append (joined (take i bs)) (get_or bs i [] ++ []) ∙ ap (λ (es : List Edge). length (joined (take i bs)) + length es) (append-nil (get_or bs i []))

-- ---- the counts in a table

-- the words of an entry are passed
entry_past : (e : Edition) (v : Vertex) (post count : ℕ) (ws : List ℕ) (i j : ℕ) → get_or (entry_of e v post count ++ ws) (j + stroke_words e * suc i) 0 ≡ get_or ws (j + stroke_words e * i) 0
unfolding entry_of post_words stroke_words count_place
entry_past First v post count ws i j =
    let q : j + 4 * suc i ≡ suc (suc (suc (suc (j + 4 * i)))) = omega arith in
    rw q refl
entry_past Second v post count ws i j =
    let q : j + 5 * suc i ≡ suc (suc (suc (suc (suc (j + 5 * i))))) = omega arith in
    rw q refl

-- the last of them is the count
entry_last : (e : Edition) (v : Vertex) (post count : ℕ) (ws : List ℕ) → get_or (entry_of e v post count ++ ws) (count_place e + stroke_words e * 0) 0 ≡ count
unfolding entry_of post_words stroke_words count_place
entry_last First v post count ws = refl
entry_last Second v post count ws = refl

module _ (e : Edition) where
  entry_count_lem : (ps : List ℕ) (vs : List Vertex) (bs : List (List Edge)) (ws : List ℕ) (i : ℕ) → length bs ≡ suc (length vs) → i < length vs
      → get_or (table_of e ps vs bs ++ ws) (count_place e + stroke_words e * i) 0 ≡ length (get_or bs i [])
  unfolding table_of
  entry_count_lem ps [] bs ws i h l = absurd (omega arith)
  entry_count_lem ps (v ∷ vs) [] ws i h l = absurd (omega arith)
  entry_count_lem ps (v ∷ vs) (b ∷ bs) ws zero h l =
      rw (append_assoc (entry_of e v (get_or ps 0 0) (length b)) (table_of e (drop 1 ps) vs bs) ws) (entry_last e v (get_or ps 0 0) (length b) (table_of e (drop 1 ps) vs bs ++ ws))
  entry_count_lem ps (v ∷ vs) (b ∷ bs) ws (suc i) h l =
      rw (append_assoc (entry_of e v (get_or ps 0 0) (length b)) (table_of e (drop 1 ps) vs bs) ws)
      (entry_past e v (get_or ps 0 0) (length b) (table_of e (drop 1 ps) vs bs ++ ws) i (count_place e) ∙ entry_count_lem (drop 1 ps) vs bs ws i (omega arith) (omega arith))

  closing_count : (ps : List ℕ) (vs : List Vertex) (bs : List (List Edge)) (ws : List ℕ) → length bs ≡ suc (length vs)
      → get_or (table_of e ps vs bs ++ ws) (0 + stroke_words e * length vs) 0 ≡ length (get_or bs (length vs) [])
  unfolding table_of
  closing_count ps vs [] ws h = absurd (omega arith)
  closing_count ps [] (b ∷ bs) ws h = let z : 0 + stroke_words e * 0 ≡ 0 = omega arith in rw z refl
  closing_count ps (v ∷ vs) (b ∷ bs) ws h =
      rw (append_assoc (entry_of e v (get_or ps 0 0) (length b)) (table_of e (drop 1 ps) vs bs) ws)
      (entry_past e v (get_or ps 0 0) (length b) (table_of e (drop 1 ps) vs bs ++ ws) (length vs) 0 ∙ closing_count (drop 1 ps) vs bs ws (omega arith))

-- ---- in a store that begins with an outline

-- body i of a store ends inside it
abbrev pub EndsInside : List ℕ → ℕ → Type 0
EndsInside s i = length_of (Stroke (edition_of (edition_in s))) (count_in s) (edges_before s i) + edge_bytes * edges_in s i ≤ length s

module _ (e : Edition) (g : ℕ) (ps : List ℕ) (vs : List Vertex) (rest : List ℕ) (h : Formed (Stroke e) g ps vs) where
  store : List ℕ
  store = outline_bytes (Stroke e) g ps vs ++ rest

  bodies : List (List Edge)
  bodies = bodies_of g vs

  -- a word past the header
  word_past : (j : ℕ) → word_at store (5 + j) ≡ get_or (table_of e ps vs bodies ++ (body_words (joined bodies) ++ words_in rest)) j 0
  unfolding store bodies outline_words parts_words header_of style_words edges_of
  word_past j =
      let q : 5 + j ≡ suc (suc (suc (suc (suc j)))) = omega arith in
      header_word (Stroke e) g ps vs rest h (5 + j) ∙ rw (q, append_assoc (table_of e ps vs bodies) (body_words (joined bodies)) (words_in rest))

  count_is : count_in store ≡ length vs
  unfolding store
  count_is = count_back (Stroke e) g ps vs rest h

  edition_here : edition_of (edition_in store) ≡ e
  unfolding store
  edition_here = edition_is e g ps vs rest h

  edges_is : (i : ℕ) → i ≤ length vs → edges_in store i ≡ length (get_or bodies i [])
  unfolding edges_in bodies
  edges_is i l = go (ltb i (count_in store)) refl
    where
      go : (x : Bool) → ltb i (count_in store) ≡ x → edges_in store i ≡ length (get_or bodies i [])
      go true q =
          let k : i < length vs = rw count_is at (ltb-true i (count_in store) q) in
          let f : entry_at (Stroke e) i + count_place e ≡ 5 + (count_place e + stroke_words e * i) = omega arith in
          rw (q, edges_in, edition_here, f) (word_past (count_place e + stroke_words e * i) ∙ entry_count_lem e ps vs bodies _ i (bodies_count g vs) k)
      go false q =
          let k : i ≡ length vs = le_antisymm l (rw count_is at (ltb-false i (count_in store) q)) in
          let f : entry_at (Stroke e) (length vs) ≡ 5 + (0 + stroke_words e * length vs) = omega arith in
          rw (q, edges_in, edition_here, count_is, k, f) (word_past (0 + stroke_words e * length vs) ∙ closing_count e ps vs bodies _ (bodies_count g vs))

  pub edges_told : (i : ℕ) → i ≤ length vs → edges_in (outline_bytes (Stroke e) g ps vs ++ rest) i ≡ length (get_or (bodies_of g vs) i [])
  unfolding store bodies
  edges_told i l = edges_is i l

  before_is : (i : ℕ) → i ≤ length vs → edges_before store i ≡ length (joined (take i bodies))
  unfolding edges_before bodies joined
  before_is zero l = refl
  before_is (suc i) l = omega (arith, before_is i (omega arith), edges_is i (omega arith), joined_more bodies i (omega (arith, bodies_count g vs)))

  module _ (i : ℕ) (l : i ≤ length vs) where
    front : List ℕ
    front = header_of (Stroke e) g (length vs) (length (joined bodies)) ++ (table_of e ps vs bodies ++ body_words (joined (take i bodies)))

    front_long : length (bytes_of front) ≡ length_of (Stroke e) (length vs) (edges_before store i)
    unfolding front header_of style_words bodies
    front_long = omega (
      arith,
      bytes-length front,
      length-append (table_of e ps vs bodies) (body_words (joined (take i bodies))),
      stroke_length e ps vs bodies (bodies_count g vs),
      entries_four e (length vs),
      numbers_length (joined (take i bodies)),
      before_is i l,
    )

    back : List ℕ
    back = bytes_of (body_words (joined (drop (suc i) bodies))) ++ rest

    body_long : length (bytes_of (body_words (get_or bodies i []))) ≡ edge_bytes * edges_in store i
    body_long = omega (arith, bytes-length (body_words (get_or bodies i [])), numbers_length (get_or bodies i []), edges_is i l)

    words_split : outline_words (Stroke e) g ps vs ≡ front ++ (body_words (get_or bodies i []) ++ body_words (joined (drop (suc i) bodies)))
    unfolding front bodies outline_words parts_words header_of style_words edges_of
    words_split =
        let q : body_words (joined bodies) ≡ body_words (joined (take i bodies)) ++ (body_words (get_or bodies i []) ++ body_words (joined (drop (suc i) bodies))) =
        ap body_words (joined_split bodies i (omega (arith, bodies_count g vs))) ∙ simp body-append in
        ap (λ (ws : List ℕ). header_of (Stroke e) g (length vs) (length (joined bodies)) ++ ws) (ap (λ (ws : List ℕ). table_of e ps vs bodies ++ ws) q ∙ sym (append_assoc (table_of e ps vs bodies) _ _))

    bytes_split : store ≡ bytes_of front ++ (bytes_of (body_words (get_or bodies i [])) ++ back)
    unfolding store back bytes_of outline_bytes
    bytes_split = ap (λ (ws : List ℕ). spread four_bytes ws ++ rest) words_split ∙ simp (spread-append, append_assoc)

    pub body-bytes : body_bytes_in (outline_bytes (Stroke e) g ps vs ++ rest) i ≡ bytes_of (body_words (get_or (bodies_of g vs) i []))
    unfolding body_bytes_in store bodies
    body-bytes =
        let q : length (bytes_of front) ≡ length_of (Stroke e) (count_in store) (edges_before store i) = front_long ∙ ap (λ (n : ℕ). length_of (Stroke e) n (edges_before store i)) (sym count_is) in
        let b = bytes_of (body_words (get_or bodies i [])) in
        ap (λ (d : Edition). take (edge_bytes * edges_in store i) (drop (length_of (Stroke d) (count_in store) (edges_before store i)) store)) edition_here
        ∙ ap (λ (l : List ℕ). take (edge_bytes * edges_in store i) l) (ap (drop (length_of (Stroke e) (count_in store) (edges_before store i))) bytes_split ∙ drop_at (bytes_of front) (b ++ back) _ q)
        ∙ take_at b back (edge_bytes * edges_in store i) body_long

    pub body_inside : EndsInside (outline_bytes (Stroke e) g ps vs ++ rest) i
    unfolding store
    body_inside =
        let b = bytes_of (body_words (get_or bodies i [])) in
        let q : length_of (Stroke (edition_of (edition_in store))) (count_in store) (edges_before store i) ≡ length_of (Stroke e) (length vs) (edges_before store i) =
        λ j. length_of (Stroke (edition_here j)) (count_is j) (edges_before store i) in
        let l : length store ≡ length (bytes_of front) + (length b + length back) =
        ap length bytes_split ∙ length-append (bytes_of front) (b ++ back) ∙ ap (λ (n : ℕ). length (bytes_of front) + n) (length-append b back) in
        omega (arith, q, l, front_long, body_long)

-- ---- in a sound store

-- it begins with what is due
pub sound_begins : (s : List ℕ) → sound_of s ≡ true → s ≡ outline_bytes (form_in s) (grade_in s) (posts_in s) (path_in s) ++ drop (length_in s) s
unfolding due_in
sound_begins s h = sound_is s h

stroke_begins : (s : List ℕ) (e : Edition) → form_in s ≡ Stroke e → sound_of s ≡ true → s ≡ outline_bytes (Stroke e) (grade_in s) (posts_in s) (path_in s) ++ drop (length_in s) s
stroke_begins s e o h = sound_begins s h ∙ ap (λ (f : Form). outline_bytes f (grade_in s) (posts_in s) (path_in s) ++ drop (length_in s) s) o

pub body_bytes_in_lem : BodyBytes
unfolding bodies_in
body_bytes_in_lem s i e o w h l =
    ap (λ (x : List ℕ). body_bytes_in x i) (stroke_begins s e o h) ∙ body-bytes e (grade_in s) (posts_in s) (path_in s) (drop (length_in s) s) (w, sound_suits s e o h) i l

pub body_inside_in : (s : List ℕ) (i : ℕ) (e : Edition) → form_in s ≡ Stroke e → Within (grade_in s) (path_in s) → sound_of s ≡ true → i ≤ length (path_in s) → EndsInside s i
body_inside_in s i e o w h l =
    subst (λ (x : List ℕ). EndsInside x i) (sym (stroke_begins s e o h))
    (body_inside e (grade_in s) (posts_in s) (path_in s) (drop (length_in s) s) (w, sound_suits s e o h) i l)
