-- The rows past a store's header, one law for each outcome of their tests, and all rows together. Assumes nothing.
use Rattle.std.specs.Prelude.{Result, Ok, Err}
use Rattle.std.proofs.lemmas.Result.{IfOk-at_ok}
use mathlib.Core.Path.{◌≡◌, sym, ap, ◌∙◌}
use mathlib.Core.Bool.{false}
use mathlib.Core.List.{List}
use Prim.Native.Nat.{ℕ, ◌*◌, ◌≤◌, ◌<◌}
use native.Mathlib.Nat.{le_antisymm}
use native.Mathlib.Omega.{arith}
use borrow.Author.Tests.{lt-ltb, le-ltb}
use lib.Dec.{ltb}
use lib.IntN.{ℤ}
use lib.ListN.{length, take, drop}
use Rattle.runs.specs.Runs.{spread}
use Rattle.contacts.specs.Limits.{first_outside}
use Rattle.contacts.proofs.Allowed.{outside_most}
use Rattle.paths.specs.Paths.{Within}
use Rattle.contacts.specs.declared.Vertex.{Vertex}
use Rattle.words.specs.Words.{words_in}
use Rattle.outline.specs.Layout.{header_words}
use Rattle.outline.specs.Outlines.{outline_bytes}
use Rattle.outline.specs.Stores.{form_in, grade_in, count_in, path_in, posts_of, posts_in, due_in, first_differing, differing_in}
use Rattle.outline.proofs.ReadBack.{path_count_in}
use Rattle.replies.specs.Replies.{Reply, first_row, outside_row}
use Rattle.replies.specs.Refusals.{refusal_of}
use Rattle.replies.specs.declared.Refusal.{Refusal}
use Rattle.replies.specs.declared.Refusal.TheVariants.{Outside, NotSound}
use Rattle.replies.proofs.Rows.{rows_append}
use Rattle.comparing.specs.Compares.{Agrees}
use Rattle.comparing.specs.declared.Compared.{Compared}
use Rattle.comparing.proofs.FirstByte.{end_is, not_sound, is_sound}
use Rattle.heading.specs.Heads.{head_rows, or_store, Head, RowsSay}
use Rattle.heading.specs.Shows.{lent_numbers, lent_width, shown_path}
use Rattle.heading.specs.StoreRows.{sound_row, store_rows}
use Rattle.heading.specs.declared.Header.{Header}
use Rattle.heading.proofs.Shown.{shown_count, shown_outside, shown_path_lem}
use Rattle.checking.specs.StoreChecks.{rest_rows, RestSays, Sound, StoreSays}

-- ---- the rows past the header

module _ {s : List ℕ} {h : Header} {vs : List Vertex} (H : Head s h) (P : vs ≡ shown_path s) where
  pub count_is : h.n ≡ length vs
  unfolding shown_path
  count_is = H.vertices ∙ sym (ap length P ∙ shown_count (form_in s) (count_in s) (drop (header_words (form_in s)) (words_in s)))

  outside_is : first_outside vs ≡ first_outside (path_in s)
  unfolding shown_path path_in
  outside_is = ap first_outside P ∙ shown_outside (form_in s) (count_in s) (drop (header_words (form_in s)) (words_in s))

  rest_refused : (r : Refusal) → ((more : Reply) → first_row (rest_rows s) more ≡ refusal_of r) → RestSays s (Err r)
  unfolding or_store
  rest_refused r f = record { says = f; within = tt }

  pub rest_outside : {i : ℕ} → i ≡ first_outside vs → i < h.n → RestSays s (Err (Outside i))
  unfolding rest_rows outside_row first_row
  rest_outside {i} e l =
      let f : i ≡ first_outside (path_in s) = e ∙ outside_is in
      let k : first_outside (path_in s) < length (path_in s) = omega (arith, H.vertices, path_count_in s) in
      rest_refused (Outside i) (λ more. rw (f, lt-ltb (first_outside (path_in s)) (length (path_in s)) k, first_row))

  module _ {i : ℕ} (e : i ≡ first_outside vs) (l : h.n ≤ i) where
    inside_is : first_outside (path_in s) ≡ length (path_in s)
    inside_is = le_antisymm (outside_most (path_in s)) (omega (arith, e, outside_is, H.vertices, path_count_in s))

    same_path : vs ≡ path_in s
    same_path = P ∙ shown_path_lem s inside_is

    within : Within (grade_in s) (path_in s)
    within = record {
      low = omega (arith, H.low, H.grade);
      high = omega (arith, H.high, H.grade);
      count = omega (arith, H.headed.count, path_count_in s);
      inside = inside_is;
    }

    pub within_is : Within h.grade vs
    within_is = rw (H.grade, same_path) within

    module _ {c : Compared} {d : ℕ} (q : Agrees s h.form h.grade (posts_of h.form h.n s) vs c) (D : d ≡ first_differing s (outline_bytes h.form h.grade (posts_of h.form h.n s) vs)) where
      posts_are : posts_of h.form h.n s ≡ posts_in s
      unfolding posts_in
      posts_are = λ i. posts_of (H.form i) (H.vertices i) s

      due_is : outline_bytes h.form h.grade (posts_of h.form h.n s) vs ≡ due_in s
      unfolding due_in
      due_is = λ i. outline_bytes (H.form i) (H.grade i) (posts_are i) (same_path i)

      differs : d ≡ first_differing s (due_in s)
      differs = D ∙ ap (first_differing s) due_is

      ends : c.end ≡ length (due_in s)
      ends = end_is h.form h.grade (posts_of h.form h.n s) vs q ∙ ap length due_is

      none : ltb (first_outside (path_in s)) (length (path_in s)) ≡ false
      none = le-ltb (first_outside (path_in s)) (length (path_in s)) (omega (arith, inside_is))

      pub rest_unsound : d < c.end → RestSays s (Err (NotSound d))
      unfolding rest_rows outside_row sound_row first_row
      rest_unsound k =
          let u = not_sound s H.headed (omega (arith, differs, ends)) in
          let g : d ≡ differing_in s = differs ∙ sym u.1 in
          rest_refused (NotSound d) (λ more. rw (g, none, first_row, u.0, first_row))

      pub rest_holds : c.end ≤ d → RestSays s (Ok tt)
      unfolding rest_rows outside_row sound_row first_row or_store
      rest_holds k = record {
        says = λ more. rw (none, first_row, is_sound s H.headed (omega (arith, differs, ends)), first_row);
        within = within;
      }

-- ---- every shared row: c is what the header's rows came to, and d what those past it did

module _ {s : List ℕ} (p : List ℤ) {c : Result Header Refusal} (a : RowsSay s (head_rows s) c) where
  past_head : {d : Result Header Refusal} (more : Reply) → c ≡ d → first_row (store_rows s) more ≡ or_store d (first_row (rest_rows s) more)
  unfolding store_rows head_rows rest_rows
  past_head more e = rows_append (head_rows s) (rest_rows s) more ∙ a.says (first_row (rest_rows s) more) ∙ ap (λ (x : Result Header Refusal). or_store x (first_row (rest_rows s) more)) e

  refused : {e : Refusal} → ((more : Reply) → first_row (store_rows s) more ≡ refusal_of e) → StoreSays s p (Err e)
  unfolding or_store
  refused f = record { says = f; sound = λ h g. cc; path = λ h g. cc }

  pub head_refused : {e : Refusal} → c ≡ Err e → StoreSays s p (Err e)
  unfolding or_store
  head_refused e = refused (λ more. past_head more e)

  module _ {h : Header} (e : c ≡ Ok h) {d : Result (Unit {0}) Refusal} (b : RestSays s d) where
    pub rest_fails : {r : Refusal} → d ≡ Err r → StoreSays s p (Err r)
    unfolding or_store
    rest_fails f = refused (λ more. past_head more e ∙ b.says more ∙ ap (λ (x : Result (Unit {0}) Refusal). or_store x more) f)

    module _ {u : Unit {0}} (f : d ≡ Ok u) (g : take (lent_width h.form * h.n) p ≡ spread (lent_numbers h.form) (shown_path s)) where
      inside : Within (grade_in s) (path_in s)
      inside = IfOk-at_ok (λ _. Within (grade_in s) (path_in s)) f b.within

      says : (more : Reply) → first_row (store_rows s) more ≡ more
      unfolding or_store
      says more = past_head more e ∙ b.says more ∙ ap (λ (x : Result (Unit {0}) Refusal). or_store x more) f

      sound : Sound s h
      sound = record { head = a.head h e; within = inside; passed = says }

      front : take (lent_width h.form * h.n) p ≡ spread (lent_numbers h.form) (path_in s)
      front = g ∙ ap (spread (lent_numbers h.form)) (shown_path_lem s inside.inside)

      pub all_hold : StoreSays s p (Ok h)
      unfolding or_store
      all_hold = record {
        says = says;
        sound = λ x q. let z : h ≡ x = cc in rw z at sound;
        path = λ x q. let z : h ≡ x = cc in rw z at front;
      }
