-- What the two rooms are given, by each outcome of the rows past the table. Assumes nothing.
use mathlib.Core.Path.{◌≡◌, refl, sym, ap, ◌∙◌}
use mathlib.Core.Bool.{false}
use mathlib.Core.List.{List, [], ◌∷◌, ◌++◌, append-nil}
use Prim.Native.Nat.{ℕ, ◌+◌, ◌-◌, ◌*◌, ◌/◌, ◌≤◌, ◌<◌}
use native.Mathlib.Nat.{le_antisymm, zero-sub}
use native.Mathlib.Omega.{arith}
use borrow.Author.Tests.{lt-ltb, le-ltb}
use lib.Dec.{eqb}
use lib.IntN.{ℤ}
use lib.ListN.{length, take, drop, replicate}
use lib.Seq.{take_at}
use Rattle.runs.specs.Runs.{Runs, put}
use Rattle.contacts.specs.Limits.{first_outside}
use Rattle.contacts.specs.declared.Vertex.{Vertex}
use Rattle.contacts.proofs.Allowed.{outside_most}
use Rattle.paths.specs.Paths.{path_of, vertex_numbers, path_numbers, Within}
use Rattle.words.specs.Words.{words_in}
use Rattle.outline.specs.Layout.{header_words}
use Rattle.outline.specs.Outlines.{outline_bytes}
use Rattle.outline.specs.Stores.{form_in, count_in, path_in, posts_of, posts_in, due_in}
use Rattle.outline.specs.declared.Form.TheVariants.{Stroke}
use Rattle.outline.proofs.ReadBack.{path_count_in}
use Rattle.outline.proofs.ShownPosts.{posts_front}
use Rattle.replies.specs.Replies.{Reply, first_row, outside_row, room_row, written}
use Rattle.replies.specs.Refusals.{refusal_of}
use Rattle.replies.specs.declared.Refusal.{Refusal}
use Rattle.replies.specs.declared.Refusal.TheVariants.{Outside, NoRoom, NoListRoom}
use Rattle.replies.proofs.Rows.{rows_append, refusal_some, refused_written, done_written}
use Rattle.keeping.specs.Rewriting.{Writes}
use Rattle.heading.specs.Shows.{shown_in, shown_path}
use Rattle.heading.proofs.Shown.{shown_count, shown_outside, shown_path_lem, path_back, path_front}
use Rattle.differences.specs.Differences.{differences_of, differences_in, notes_from, notes_in}
use Rattle.differences.specs.Bodies.{single}
use Rattle.differences.proofs.Notes.{singles_count, singles_whole}
use Rattle.salvaging.specs.Salvaging.{list_row, front_rows, past_rows, salvage_reply, salvage_out, salvage_list, noted_with, reply_of_salvaged, notes_of_salvaged, Salvages, Gives}
use Rattle.salvaging.specs.FrontChecks.{or_front, FrontFits, RowsTell}
use Rattle.salvaging.specs.declared.Salvaged.{Salvaged}
use Rattle.std.specs.Prelude.{Result, Ok, Err}
use Rattle.differences.specs.declared.fronts.Front.{Front}

-- ---- any reply

pub gives_refused : {told : Reply} (r : Refusal) (made notes out list : List ℕ) → refusal_of r ≡ told → Gives told made notes out list (Err r) out list
unfolding reply_of_salvaged notes_of_salvaged noted_with
gives_refused r made notes out list e =
    let f : eqb (refusal_of r).0 0 ≡ false = refusal_some r in
    record { reply = e; noted = rw (← e, f, noted_with); out = refused_written r made out e; list = refused_written r notes list e }

pub gives_as : {s t : Reply} {made made' notes notes' out list o l : List ℕ} {a : Result Salvaged Refusal} → s ≡ t → made ≡ made' → notes ≡ notes' → Gives s made notes out list a o l → Gives t made' notes' out list a o l
gives_as e f g p = rw (e, f, g) at p

-- ---- the two rooms

module _ (made notes out list : List ℕ) where
  pub both_short : {needed : ℕ} → needed ≡ length made → length out < needed → Gives (first_row (room_row (length made) (length out) (length made) ∷ list_row (length notes) (length list) ∷ []) (0, length made)) made notes out list (Err (NoRoom needed)) out list
  unfolding first_row room_row
  both_short {needed} e l = gives_refused (NoRoom needed) made notes out list (rw (e, lt-ltb (length out) (length made) (rw e at l), first_row) refl)

  module _ {needed : ℕ} (e : needed ≡ length made) (l : needed ≤ length out) {words : ℕ} (ew : words ≡ length notes) where
    pub both_unlisted : length list < words → Gives (first_row (room_row (length made) (length out) (length made) ∷ list_row (length notes) (length list) ∷ []) (0, length made)) made notes out list (Err (NoListRoom (words / 2))) out list
    unfolding first_row room_row list_row
    both_unlisted h =
        gives_refused (NoListRoom (words / 2)) made notes out list (rw (ew, le-ltb (length out) (length made) (rw e at l), first_row, lt-ltb (length list) (length notes) (rw ew at h), first_row) refl)

    pub both_given : {bytes end : ℕ} {out₁ list₁ : List ℕ} → words ≤ length list → Runs put single list 0 notes list₁ end → Writes out made 0 bytes out₁
        → Gives (first_row (room_row (length made) (length out) (length made) ∷ list_row (length notes) (length list) ∷ []) (0, length made)) made notes out list (Ok (record { bytes = bytes; notes = words / 2 })) out₁ list₁
    unfolding reply_of_salvaged notes_of_salvaged noted_with first_row room_row list_row
    both_given {bytes} h p w =
        let told : first_row (room_row (length made) (length out) (length made) ∷ list_row (length notes) (length list) ∷ []) (0, length made) ≡ (0, length made) =
        rw (le-ltb (length out) (length made) (rw e at l), first_row, le-ltb (length list) (length notes) (rw ew at h), first_row) in
        let zeros : made ++ replicate {A = ℕ} (0 - length made) 0 ≡ made = ap (λ (k : ℕ). made ++ replicate {A = ℕ} k 0) (zero-sub (length made)) ∙ append-nil made in
        rw told (record {
          reply = ap (λ (k : ℕ). (0, k)) w.long;
          noted = ap (λ (k : ℕ). k / 2) ew;
          out = w.bytes ∙ (λ i. written (0, w.long i) (zeros i) out);
          list = singles_whole p (omega (arith, ew, h)) ∙ done_written (length made) notes list refl;
        })

-- ---- the vertices

module _ {s : List ℕ} {f : Front} {vs : List Vertex} (F : FrontFits s f) (P : vs ≡ shown_path s) where
  pub count_is : f.n ≡ length vs
  unfolding shown_path
  count_is = F.fronted.count ∙ sym (ap length P ∙ shown_count (form_in s) (count_in s) (drop (header_words (form_in s)) (words_in s)))

  outside_is : first_outside vs ≡ first_outside (path_in s)
  unfolding shown_path path_in
  outside_is = ap first_outside P ∙ shown_outside (form_in s) (count_in s) (drop (header_words (form_in s)) (words_in s))

  pub past_outside : (made notes out list : List ℕ) {i : ℕ} → i ≡ first_outside vs → i < f.n → Gives (first_row (past_rows s (length out) (length list)) (0, length (due_in s))) made notes out list (Err (Outside i)) out list
  unfolding past_rows outside_row first_row
  past_outside made notes out list {i} e l =
      let q : i ≡ first_outside (path_in s) = e ∙ outside_is in
      let k : first_outside (path_in s) < length (path_in s) = omega (arith, F.fronted.count, path_count_in s) in
      gives_refused (Outside i) made notes out list (rw (q, lt-ltb (first_outside (path_in s)) (length (path_in s)) k, first_row))

  module _ {i : ℕ} (e : i ≡ first_outside vs) (l : f.n ≤ i) where
    inside_is : first_outside (path_in s) ≡ length (path_in s)
    inside_is = le_antisymm (outside_most (path_in s)) (omega (arith, e, outside_is, F.fronted.count, path_count_in s))

    same_path : vs ≡ path_in s
    same_path = P ∙ shown_path_lem s inside_is

    pub within_is : Within f.grade vs
    within_is = record { low = F.low; high = F.high; count = omega (arith, count_is, F.fronted.few); inside = rw same_path inside_is }

    pub past_given : {ps found out list o r : List ℕ} {a : Result Salvaged Refusal} → ps ≡ posts_in s → found ≡ differences_of s f.grade vs
        → Gives (first_row (room_row (length (outline_bytes (Stroke f.edition) f.grade ps vs)) (length out) (length (outline_bytes (Stroke f.edition) f.grade ps vs)) ∷ list_row (length (notes_from 0 found)) (length list) ∷ []) (0, length (outline_bytes (Stroke f.edition) f.grade ps vs))) (outline_bytes (Stroke f.edition) f.grade ps vs) (notes_from 0 found) out list a o r
        → Gives (first_row (past_rows s (length out) (length list)) (0, length (due_in s))) (due_in s) (notes_in s) out list a o r
    unfolding past_rows outside_row first_row notes_in differences_in due_in
    past_given {out = out} {list} ep ef p =
        let due : outline_bytes (Stroke f.edition) f.grade _ vs ≡ due_in s = λ j. outline_bytes (sym F.form j) (F.grade j) (ep j) (same_path j) in
        let notes : notes_from 0 _ ≡ notes_in s = ap (notes_from 0) (ef ∙ (λ j. differences_of s (F.grade j) (same_path j))) in
        let none : first_outside (path_in s) ≡ length (path_in s) = inside_is in
        gives_as ((λ j. first_row (room_row (length (due j)) (length out) (length (due j)) ∷ list_row (length (notes j)) (length list) ∷ []) (0, length (due j))) ∙ rw (le-ltb (first_outside (path_in s)) (length (path_in s)) (omega (arith, none)), first_row) refl) due notes p

-- ---- the numbers that vertices and posts are copied into

module _ {s : List ℕ} {f : Front} (F : FrontFits s f) where
  pub shown_lent : {p₀ p₁ : List ℤ} → 12288 ≤ length p₀ → Runs put vertex_numbers p₀ 0 (shown_in (Stroke f.edition) f.n (drop 5 (words_in s))) p₁ (3 * f.n) → path_of (take (3 * f.n) p₁) ≡ shown_path s
  unfolding shown_path path_numbers
  shown_lent {p₁ = p₁} room q =
      ap path_of (path_front q (omega (arith, room, F.fronted.few)))
      ∙ path_back _
      ∙ (λ i. shown_in (sym F.form i) (F.fronted.count i) (drop (header_words (sym F.form i)) (words_in s)))

  pub posts_lent : {l : List ℕ} (l₀ : List ℕ) → l ≡ posts_of (Stroke f.edition) f.n s ++ drop f.n l₀ → take f.n l ≡ posts_in s
  unfolding posts_in
  posts_lent l₀ q = posts_front f.edition s f.n l₀ q refl ∙ (λ i. posts_of (sym F.form i) (F.fronted.count i) s)

-- what differs stands at the front of the numbers that it was written into
pub found_front : {ds l₀ l₁ : List ℕ} (n : ℕ) {end : ℕ} → Runs put single l₀ 0 ds l₁ (n + 2) → n + 2 ≤ length l₀ → end ≡ n + 2 → take end l₁ ≡ ds
found_front {ds} {l₀} {l₁} n {end} p h e =
    let k : n + 2 ≡ length ds = singles_count p in
    ap (take end) (singles_whole p (omega arith))
    ∙ take_at ds (drop (length ds) l₀) end (sym (e ∙ k))

-- ---- the call

pub salvage_refused : {s : List ℕ} (out list : List ℕ) {c : Result Front Refusal} {r : Refusal} → c ≡ Err r → RowsTell s (front_rows s) c → Salvages s out list (Err r) out list
unfolding salvage_reply salvage_out salvage_list or_front
salvage_refused {s} out list {c} {r} e a =
    let told : refusal_of r ≡ salvage_reply s (length out) (length list) = sym (rows_append (front_rows s) (past_rows s (length out) (length list)) _ ∙ a.says _ ∙ ap (λ (x : Result Front Refusal). or_front x (first_row (past_rows s (length out) (length list)) (0, length (due_in s)))) e) in
    let g = gives_refused r (due_in s) (notes_in s) out list told in
    record { reply = g.reply; notes = g.noted; out = g.out; list = g.list }

pub salvage_given : {s out list o l : List ℕ} {c : Result Front Refusal} {f : Front} {r : Result Salvaged Refusal} → c ≡ Ok f → RowsTell s (front_rows s) c
    → Gives (first_row (past_rows f.store.now (length out) (length list)) (0, length (due_in f.store.now))) (due_in f.store.now) (notes_in f.store.now) out list r o l → Salvages s out list r o l
unfolding salvage_reply salvage_out salvage_list or_front
salvage_given {s} {out} {list} {f = f} e a p =
    let told : first_row (past_rows s (length out) (length list)) (0, length (due_in s)) ≡ salvage_reply s (length out) (length list) = sym (rows_append (front_rows s) (past_rows s (length out) (length list)) _ ∙ a.says _ ∙ ap (λ (x : Result Front Refusal). or_front x (first_row (past_rows s (length out) (length list)) (0, length (due_in s)))) e) in
    let same : f.store.now ≡ s = (a.fits f e).store in
    let g = gives_as told refl refl (rw same at p) in
    record { reply = g.reply; notes = g.noted; out = g.out; list = g.list }
