-- What is wanted of a path of records, and what was gathered of it. Assumes nothing.
use Rattle.std.specs.Prelude.{Result, Ok}
use mathlib.Core.Path.{◌≡◌, refl, sym, ap, ◌∙◌}
use mathlib.Core.Bool.{Bool, true, false}
use mathlib.Core.List.{List, ◌++◌}
use Prim.Native.Nat.{ℕ, ◌+◌, ◌*◌, ◌≤◌}
use native.Mathlib.Nat.{le_refl}
use native.Mathlib.Omega.{arith}
use lib.Dec.{ltb}
use lib.IntN.{ℤ}
use lib.ListN.{length, take, drop, take-append-drop}
use lib.Seq.{take_all, take_at, take-add, drop_at, length-take-le}
use borrow.Author.Tests.{ltb-false}
use Rattle.runs.specs.Runs.{spread, over, Runs, put}
use Rattle.runs.proofs.Laws.{spread-append, runs_all}
use Rattle.runs.proofs.Written.{over_whole, written-length, written_before, written_behind}
use Rattle.words.specs.Words.{words_of}
use Rattle.replies.specs.Replies.{first_row, draw_grade_row, count_row}
use Rattle.records.specs.Records.{record_numbers, record_posts, post_numbers, Gathers}
use Rattle.records.specs.declared.Record.{Record}
use Rattle.records.proofs.Gathered.{records_three, posts_one, posts_many}
use Rattle.replies.specs.declared.Refusal.{Refusal}
use Rattle.record_paths.specs.RecordPaths.{wanted_of, Gathered, CountSays}

-- all are wanted, and are at most 4,096, or none
pub record Wants (n m : ℕ) : Type 0 where
  pub most : m ≤ 4096
  pub inside : m ≤ n
  pub all : (m ≡ 0 → ⊥) → m ≡ n

pub wants : (n g : ℕ) → Wants n (wanted_of n g)
unfolding wanted_of first_row count_row
wants n g = by_grade (draw_grade_row g).0
  where
    by_count : (c : Bool) → ltb 4096 n ≡ c → Wants n (elim c as (λ _. ℕ) [ true ↦ 0 | false ↦ n ])
    by_count true e = record { most = omega arith; inside = omega arith; all = λ h. absurd (h refl) }
    by_count false e = record { most = ltb-false 4096 n e; inside = le_refl n; all = λ h. refl }

    by_grade : (c : Bool) → Wants n (elim c as (λ _. ℕ) [ true ↦ 0 | false ↦ elim (ltb 4096 n) as (λ _. ℕ) [ true ↦ 0 | false ↦ n ] ])
    by_grade true = record { most = omega arith; inside = omega arith; all = λ h. absurd (h refl) }
    by_grade false = by_count (ltb 4096 n) refl

-- the numbers of the first records are the first of all the records' numbers: k is how many a record has
firsts : {A : Type 0} (f : Record → List A) (k : ℕ) → ((us : List Record) → length (spread f us) ≡ k * length us) → (m : ℕ) (vs : List Record) → m ≤ length vs → take (k * m) (spread f vs) ≡ spread f (take m vs)
firsts f k each m vs h =
    let long : length (spread f (take m vs)) ≡ k * m = each (take m vs) ∙ ap (λ (n : ℕ). k * n) (length-take-le m vs h) in
    ap (λ (l : List Record). take (k * m) (spread f l)) (sym (take-append-drop m vs))
    ∙ ap (take (k * m)) (spread-append f (take m vs) (drop m vs))
    ∙ take_at (spread f (take m vs)) (spread f (drop m vs)) (k * m) long

posts_each : (vs : List Record) → length (spread record_posts vs) ≡ 1 * length vs
posts_each vs = omega (arith, posts_many vs)

-- where there is room, the numbers stand first, and the posts' after them
module _ (numbers : List ℤ) (m : ℕ) (vs : List Record) {l : List ℤ} (few : length vs ≡ m) (room : 4 * m ≤ length numbers) (h : Gathers numbers m vs l) where
  long : length (spread record_numbers vs) ≡ 3 * m
  long = records_three vs ∙ ap (λ (k : ℕ). 3 * k) few

  many : length (spread post_numbers vs) ≡ m
  many = posts_one vs ∙ few

  halfway : List ℤ
  halfway = over put numbers 0 (spread record_numbers vs)

  half_long : length halfway ≡ length numbers
  unfolding halfway
  half_long = written-length {g = record_numbers} {es = vs} (runs_all numbers 0 vs)

  half_first : take (3 * m) halfway ≡ spread record_numbers vs
  unfolding halfway
  half_first =
      ap (take (3 * m)) (over_whole numbers (spread record_numbers vs) (omega (arith, long, room)))
      ∙ take_at (spread record_numbers vs) (drop (length (spread record_numbers vs)) numbers) (3 * m) long

  past : Runs put post_numbers halfway (3 * m) vs l (3 * m + length (spread post_numbers vs))
  unfolding halfway
  past = record { out = h.out; pos = refl }

  numbers_first : take (3 * m) l ≡ spread record_numbers vs
  numbers_first = written_before {es = vs} (3 * m) (omega arith) past ∙ half_first

  posts_after : take m (drop (3 * m) l) ≡ spread post_numbers vs
  posts_after =
      let both : take (3 * m + m) l ≡ take (3 * m) halfway ++ spread post_numbers vs =
      ap (λ (k : ℕ). take (3 * m + k) l) (sym many) ∙ written_behind {es = vs} (omega (arith, many, half_long, room)) past in
      let front : length (take (3 * m) l) ≡ 3 * m = ap length numbers_first ∙ long in
      let half : length (take (3 * m) halfway) ≡ 3 * m = ap length half_first ∙ long in
      sym (drop_at (take (3 * m) l) (take m (drop (3 * m) l)) (3 * m) front)
      ∙ ap (drop (3 * m)) (sym (take-add (3 * m) m l) ∙ both)
      ∙ drop_at (take (3 * m) halfway) (spread post_numbers vs) (3 * m) half

-- what is gathered of records where there is room for all that are wanted
pub gathered_path : (numbers : List ℤ) (vs : List Record) {m g : ℕ} {l : List ℤ} → m ≡ wanted_of (length vs) g → 4 * m ≤ length numbers
    → Gathers numbers m (take m vs) l → Gathered l (length vs) g (spread record_numbers vs) (spread record_posts vs)
gathered_path numbers vs {m} {g} {l} e room h =
    let w : m ≤ length vs = omega (arith, e, (wants (length vs) g).inside) in
    let few : length (take m vs) ≡ m = length-take-le m vs w in
    let first : take (3 * m) l ≡ take (3 * m) (spread record_numbers vs) = numbers_first numbers m (take m vs) few room h ∙ sym (firsts record_numbers 3 records_three m vs w) in
    let posts : take (1 * m) (spread record_posts vs) ≡ spread record_posts (take m vs) = firsts record_posts 1 posts_each m vs w in
    let one : 1 * m ≡ m = omega arith in
    let after : words_of (take m (drop (3 * m) l)) ≡ take m (spread record_posts vs) =
    ap words_of (posts_after numbers m (take m vs) few room h) ∙ h.words ∙ sym posts ∙ ap (λ (k : ℕ). take k (spread record_posts vs)) one in
    record { long = records_three vs; many = posts_many vs; first = rw (← e) first; after = rw (← e) after }

-- the path that is gathered, where the count passes, and its posts
module _ (numbers : List ℤ) {n g m : ℕ} {c : Result ℕ Refusal} (path : List ℤ) (posts : List ℕ) (s : CountSays n g c) (e : c ≡ Ok m) (h : Gathered numbers n g path posts) where
  wanted_all : m ≡ wanted_of n g
  wanted_all = (s.passed m e).0 ∙ sym (s.passed m e).1

  pub gathered_is : take (3 * m) numbers ≡ path
  gathered_is =
      ap (λ (k : ℕ). take (3 * k) numbers) wanted_all ∙ h.first ∙ ap (λ (k : ℕ). take (3 * k) path) (s.passed m e).1 ∙ take_all (3 * n) path (omega (arith, h.long))

  pub gathered_posts : words_of (take m (drop (3 * m) numbers)) ≡ posts
  gathered_posts =
      ap (λ (k : ℕ). words_of (take k (drop (3 * k) numbers))) wanted_all ∙ h.after ∙ ap (λ (k : ℕ). take k posts) (s.passed m e).1 ∙ take_all n posts (omega (arith, h.many))
