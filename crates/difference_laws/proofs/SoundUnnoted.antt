-- A store without notes is sound, and a sound one has none. Assumes nothing.
use mathlib.Core.Path.{◌≡◌, sym, ap, ◌∙◌}
use mathlib.Core.Bool.{true}
use mathlib.Core.List.{List, [], ◌∷◌, ◌++◌, append_assoc}
use Prim.Native.Nat.{ℕ, zero, suc, ◌+◌, ◌*◌, ◌≤◌}
use native.Mathlib.Omega.{arith}
use lib.ListN.{length, get_or, take, drop, length-take, length-drop, drop_of_length-le}
use lib.Seq.{get_or-drop, drop-cons, take-add}
use Rattle.runs.specs.Runs.{spread}
use Rattle.runs.proofs.Laws.{spread-append}
use Rattle.turning.specs.declared.Edge.{Edge}
use Rattle.paths.specs.Paths.{bodies_of, edges_of}
use Rattle.words.specs.Words.{four_bytes, bytes_of, words_in, word_at}
use Rattle.outline.specs.Layout.{edition_number, stroke_words, header_words, front_bytes, length_of}
use Rattle.outline.specs.Outlines.{style_words, header_of, table_of, body_words, parts_words, outline_words, outline_bytes}
use Rattle.outline.specs.Stores.{edition_in, kind_in, edition_of, form_in, grade_in, count_in, length_in, entries_in, path_in, posts_from, posts_in, due_in, same_bytes, sound_of, edges_in, edges_before, body_bytes_in}
use Rattle.outline.specs.Theorems.{Suits, Formed}
use Rattle.outline.specs.declared.Edition.{Edition}
use Rattle.outline.specs.declared.Form.{Form}
use Rattle.outline.specs.declared.Form.TheVariants.{Stroke}
use Rattle.outline.proofs.FormLengths.{entries_four}
use Rattle.outline.proofs.ReadBack.{path_count_in, form_stroke, bodies_count, outline_length, header_word, same_list, sound_is, small_suits}
use Rattle.outline.proofs.Differing.{words_again, words_count, five, word_small}
use Rattle.outline.proofs.BodiesInBytes.{edges_told, body-bytes}
use Rattle.differences.specs.Differences.{old_at, differences_from, total_number, differences_of, differences_in, notes_in}
use Rattle.difference_laws.specs.Legible.{Legible, NoNotes}
use Rattle.difference_laws.proofs.NothingDiffers.{notes_none, none_notes, Same, bodies_same, same_bodies, bodies_again, total_same, same_total}
use Rattle.difference_laws.proofs.TableAgain.{table_again, counts_same}

module _ (s : List ℕ) (h : Legible s) where
  edition : Edition
  edition = edition_of (edition_in s)

  n : ℕ
  n = count_in s

  g : ℕ
  g = grade_in s

  table : List ℕ
  table = drop 5 (words_in s)

  bodies : List (List Edge)
  bodies = bodies_of (grade_in s) (path_in s)

  pub legible_form : form_in s ≡ Stroke (edition_of (edition_in s))
  legible_form = form_stroke s h.kind

  path_is : path_in s ≡ entries_in (Stroke edition) n table
  unfolding path_in edition n table
  path_is = λ i. entries_in (legible_form i) (count_in s) (drop (header_words (legible_form i)) (words_in s))

  posts_are : posts_in s ≡ posts_from (Stroke edition) n table
  unfolding posts_in edition n table
  posts_are = λ i. posts_from (legible_form i) (count_in s) (drop (header_words (legible_form i)) (words_in s))

  due_is : due_in s ≡ outline_bytes (Stroke edition) g (posts_in s) (path_in s)
  unfolding due_in edition g
  due_is = ap (λ (f : Form). outline_bytes f (grade_in s) (posts_in s) (path_in s)) legible_form

  edition_word_lem : get_or (words_in s) 0 0 ≡ edition_number edition
  unfolding edition_in word_at edition
  edition_word_lem = h.edition

  kind_word_lem : get_or (words_in s) 1 0 ≡ 0
  unfolding kind_in word_at
  kind_word_lem = h.kind

  bodies_many : length bodies ≡ suc n
  unfolding bodies n
  bodies_many = bodies_count (grade_in s) (path_in s) ∙ ap suc (path_count_in s)

  pub legible_suits : Suits (Stroke (edition_of (edition_in s))) (posts_in s) (path_in s)
  legible_suits = small_suits s (edition_of (edition_in s)) legible_form (λ q i l. rw (get_or-drop 5 (words_in s) i 0) (word_small s (5 + i) h.bytes))

  -- ---- no notes, then sound

  module _ (same : Same s 0 (bodies_of (grade_in s) (path_in s))) (total : word_at s 4 ≡ length (edges_of (grade_in s) (path_in s))) where
    few : 4 * suc (suc (suc (suc (suc (stroke_words edition * n + 1))))) ≡ front_bytes (Stroke edition) n
    few = omega (arith, entries_four edition n)

    enough : suc (suc (suc (suc (suc (stroke_words edition * n + 1))))) ≤ length (words_in s)
    unfolding edition n
    enough = words_count s _ (omega (arith, few, h.long))

    table_is : take (stroke_words edition * n + 1) table ≡ table_of edition (posts_in s) (path_in s) bodies
    unfolding table bodies edition n
    table_is =
        table_again edition n table bodies (λ i. rw (get_or-drop 5 (words_in s) i 0) (word_small s (5 + i) h.bytes)) (omega (arith, enough, length-drop 5 (words_in s))) (counts_same s bodies bodies_many same)
        ∙ (λ i. table_of edition (sym posts_are i) (sym path_is i) bodies)

    words_are : words_in s ≡ header_of (Stroke edition) g (length (path_in s)) (length (edges_of g (path_in s))) ++ table
    unfolding header_of style_words edition g table grade_in count_in word_at
    words_are =
        five (words_in s) (omega (arith, enough))
        ∙ (λ i. edition_word_lem i ∷ kind_word_lem i ∷ grade_in s ∷ sym (path_count_in s) i ∷ total i ∷ drop 5 (words_in s))

    header : List ℕ
    header = header_of (Stroke edition) g (length (path_in s)) (length (edges_of g (path_in s)))

    front_words : take (suc (suc (suc (suc (suc (stroke_words edition * n + 1)))))) (words_in s) ≡ header ++ table_of edition (posts_in s) (path_in s) bodies
    unfolding header header_of style_words
    front_words = ap (take (suc (suc (suc (suc (suc (stroke_words edition * n + 1))))))) words_are ∙ ap (λ (l : List ℕ). header ++ l) table_is

    front_bytes_lem : take (front_bytes (Stroke edition) n) s ≡ bytes_of (header ++ table_of edition (posts_in s) (path_in s) bodies)
    unfolding edition n
    front_bytes_lem =
        ap (λ (k : ℕ). take k s) (sym few)
        ∙ words_again (suc (suc (suc (suc (suc (stroke_words edition * n + 1)))))) s h.bytes (omega (arith, few, h.long))
        ∙ ap bytes_of front_words

    body-edges : take (16 * length (edges_of g (path_in s))) (drop (front_bytes (Stroke edition) n) s) ≡ bytes_of (body_words (edges_of g (path_in s)))
    unfolding edges_of old_at edges_before edition n g
    body-edges =
        let z : front_bytes (Stroke edition) n ≡ old_at s 0 = omega arith in
        ap (λ (k : ℕ). take (16 * length (edges_of g (path_in s))) (drop k s)) z ∙ bodies_again s 0 (bodies_of g (path_in s)) same

    length_is : length_in s ≡ front_bytes (Stroke edition) n + 16 * length (edges_of g (path_in s))
    unfolding length_in edition n g
    length_is = λ i. length_of (legible_form i) (count_in s) (total i)

    whole : take (length_in s) s ≡ due_in s
    unfolding header outline_bytes outline_words parts_words bytes_of bodies g
    whole =
        ap (λ (k : ℕ). take k s) length_is
        ∙ take-add (front_bytes (Stroke edition) n) (16 * length (edges_of g (path_in s))) s
        ∙ (λ i. front_bytes_lem i ++ body-edges i)
        ∙ sym (spread-append four_bytes (header ++ table_of edition (posts_in s) (path_in s) bodies) (body_words (edges_of g (path_in s))))
        ∙ ap (spread four_bytes) (append_assoc header (table_of edition (posts_in s) (path_in s) bodies) (body_words (edges_of g (path_in s))))
        ∙ sym due_is

    sound : sound_of s ≡ true
    unfolding sound_of
    sound = ap (λ (l : List ℕ). same_bytes l (due_in s)) whole ∙ same_list (due_in s)

    inside : length_in s ≤ length s
    unfolding n
    inside =
        let a : length (due_in s) ≡ length_in s = ap length due_is ∙ outline_length (Stroke edition) g (posts_in s) (path_in s) ∙ ap (λ (k : ℕ). length_of (Stroke edition) k (length (edges_of g (path_in s)))) (path_count_in s) ∙ sym length_is in
        omega (arith, a, ap length whole, length-take (length_in s) s)

  -- ---- sound, then no notes

  module _ (q : sound_of s ≡ true) where
    rest : List ℕ
    rest = drop (length_in s) s

    store_is : s ≡ outline_bytes (Stroke edition) g (posts_in s) (path_in s) ++ rest
    unfolding rest
    store_is = sound_is s q ∙ ap (λ (l : List ℕ). l ++ drop (length_in s) s) due_is

    formed : Formed (Stroke edition) g (posts_in s) (path_in s)
    unfolding edition g
    formed = (h.within, legible_suits)

    count_same : (i : ℕ) → i ≤ length (path_in s) → edges_in s i ≡ length (get_or bodies i [])
    unfolding bodies g
    count_same i l = ap (λ (x : List ℕ). edges_in x i) store_is ∙ edges_told edition g (posts_in s) (path_in s) rest formed i l

    bytes_same : (i : ℕ) → i ≤ length (path_in s) → take (16 * length (get_or bodies i [])) (drop (old_at s i) s) ≡ bytes_of (body_words (get_or bodies i []))
    unfolding bodies g body_bytes_in old_at
    bytes_same i l =
        ap (λ (k : ℕ). take (16 * k) (drop (old_at s i) s)) (sym (count_same i l))
        ∙ ap (λ (x : List ℕ). body_bytes_in x i) store_is
        ∙ body-bytes edition g (posts_in s) (path_in s) rest formed i l

    all_same : (k i : ℕ) → i + k ≡ suc n → Same s i (drop i bodies)
    unfolding n
    all_same zero i e = let l : length bodies ≤ i = omega (arith, bodies_many, e) in rw (drop_of_length-le bodies l) tt
    all_same (suc k) i e =
        let l : i ≤ length (path_in s) = omega (arith, e, path_count_in s) in
        rw (drop-cons bodies i [] (omega (arith, bodies_many, e))) (count_same i l, bytes_same i l, all_same k (suc i) (omega (arith, e)))

    total_right : word_at s 4 ≡ length (edges_of g (path_in s))
    unfolding outline_words parts_words header_of
    total_right = ap (λ (x : List ℕ). word_at x 4) store_is ∙ header_word (Stroke edition) g (posts_in s) (path_in s) rest formed 4

    unnoted : notes_in s ≡ []
    unfolding notes_in differences_in differences_of bodies g
    unnoted = none_notes 0 _ (same_bodies s 0 (bodies_of (grade_in s) (path_in s)) (total_number (word_at s 4) (length (edges_of (grade_in s) (path_in s)))) (all_same (suc n) 0 (omega arith)) (same_total _ _ total_right))

pub no_notes : NoNotes
unfolding notes_in differences_in differences_of
no_notes s h = (there, unnoted s h)
  where
    there : notes_in s ≡ [] → (sound_of s ≡ true) × (length_in s ≤ length s)
    there e =
        let x = total_number (word_at s 4) (length (edges_of (grade_in s) (path_in s))) in
        let r = bodies_same s 0 (bodies_of (grade_in s) (path_in s)) x (notes_none 0 (differences_from s 0 (bodies_of (grade_in s) (path_in s)) ++ (x ∷ [])) e) in
        let t : word_at s 4 ≡ length (edges_of (grade_in s) (path_in s)) = total_same _ _ r.1 in
        (sound s h r.0 t, inside s h r.0 t)
