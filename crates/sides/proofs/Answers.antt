-- What the table of a sheet says of its bodies, what side by side answers, case by case, and that two outcomes coincide. Assumes nothing.
use Rattle.std.specs.Prelude.{Result, Ok, Err}
use mathlib.Core.Path.{◌≡◌, refl, sym, ap, ◌∙◌}
use mathlib.Core.Bool.{Bool, true, false, ◌||◌}
use mathlib.Core.List.{List, [], ◌++◌}
use Prim.Native.Nat.{ℕ, suc, ◌+◌, ◌-◌, ◌*◌, ◌^◌, ◌≤◌, ◌<◌}
use native.Mathlib.Nat.{add-sub_cancel_left}
use native.Mathlib.Numerals.{add-one}
use native.Mathlib.Omega.{arith}
use borrow.Author.Tests.{ltb-false, lt-ltb, le-ltb}
use lib.Dec.{eqb, ltb}
use lib.IntN.{ℤ}
use lib.ListN.{length, get_or, take, drop, length-drop}
use lib.Seq.{length-take-le}
use Rattle.words.specs.Words.{bytes_of, word_at}
use Rattle.words.proofs.Bytes.{bytes-length}
use Rattle.outline.specs.Layout.{kerb_kind, kind_word, count_place, stroke_words, entry_at, edge_bytes, front_bytes}
use Rattle.outline.specs.Outlines.{body_words}
use Rattle.outline.specs.Stores.{edition_in, edition_of, count_in, path_in, bodies_in, sound_of, edges_in, edges_before, body_bytes_in}
use Rattle.outline.specs.declared.Edition.{Edition}
use Rattle.outline.specs.declared.Form.TheVariants.{Stroke}
use Rattle.outline.proofs.BodiesInBytes.{body_bytes_in_lem, body_inside_in}
use Rattle.outline.proofs.FormLengths.{entry_four, entries_four, entries_first, entry_most}
use Rattle.outline.proofs.ReadBack.{path_count_in, numbers_length}
use Rattle.replies.specs.Replies.{Reply, first_row}
use Rattle.replies.specs.Refusals.{refusal_of, Codes}
use Rattle.replies.specs.declared.Code.{Code}
use Rattle.replies.specs.declared.Refusal.{Refusal}
use Rattle.replies.specs.declared.Refusal.TheVariants.{NoVertex, OtherKind}
use Rattle.replies.proofs.OneOutcome.{from, from_refusal}
use Rattle.replies.proofs.Rows.{NoneHold, refusal_some, first-none, none_last, either, rows_zero}
use Rattle.heading.specs.StoreRows.{store_rows}
use Rattle.heading.specs.declared.Header.{Header}
use Rattle.heading.specs.Headers.{KerbRefused}
use Rattle.checking.specs.OtherKind.{other_kind_row}
use Rattle.checking.specs.StoreChecks.{Sound, StoreSays}
use Rattle.checking.proofs.OtherKinds.{not_other}
use Rattle.checking.proofs.StorePassed.{store_coded, passed_within, passed_sound}
use Rattle.checking.proofs.StoreReads.{store_refuses, store_passes}
use Rattle.sides.specs.Sides.{chosen, body_at, either_kind_row, body_row, body_reply, side_rows, side_reply, when_done, side_part, side_offset, side_length, reply_of_located, offset_of_located, length_of_located, Locates, HandsBack, OneSide, OnePart, PartIsBody, BodiesInside, LocatesIn}
use Rattle.sides.specs.declared.Sheet.{Sheet}
use Rattle.sides.specs.declared.Sheet.TheVariants.{Before, After}
use Rattle.sides.specs.declared.Located.{Located}

-- ---- the chosen sheet

pub chosen_before : {sheet : Sheet} (before after : List ℕ) → sheet ≡ Before → chosen sheet before after ≡ before
unfolding chosen
chosen_before before after e = rw e refl

pub chosen_after : {sheet : Sheet} (before after : List ℕ) → sheet ≡ After → chosen sheet before after ≡ after
unfolding chosen
chosen_after before after e = rw e refl

-- what holds of both sheets holds of the chosen one
pub of_chosen {ℓ} : (P : List ℕ → Type ℓ) (sheet : Sheet) (before after : List ℕ) → P before → P after → P (chosen sheet before after)
unfolding chosen
of_chosen P Before before after b a = b
of_chosen P After before after b a = a

-- ---- a sheet's table

module _ {s : List ℕ} {n : ℕ} (a : BodiesInside s n) where
  -- header and table stand inside it; all edges up to those of one body too
  pub front_inside : front_bytes (Stroke (edition_of (edition_in s))) n ≤ length s
  unfolding body_at edges_before
  front_inside =
      let h : front_bytes (Stroke (edition_of (edition_in s))) (count_in s) ≤ length s = omega (arith, a.inside 0 (omega arith)) in
      rw a.vertices h

  pub sum_inside : (i : ℕ) → i ≤ n → 16 * (edges_before s i + edges_in s i) < length s
  unfolding body_at
  sum_inside i l = omega (arith, a.inside i l)

  -- an edition as the code has it, and for w the words of its entries
  module _ {e : Edition} (q : e ≡ edition_of (edition_in s)) where
    pub table_inside : front_bytes (Stroke e) n ≤ length s
    table_inside = rw q front_inside

    module _ {w : ℕ} (ew : w ≡ stroke_words e) where
      places : w ≡ suc (count_place (edition_of (edition_in s)))
      unfolding stroke_words
      places = ew ∙ ap stroke_words q

      pub entry_some : 1 ≤ w
      entry_some = omega (arith, places)

      pub entry_inside : (i : ℕ) → i < n → 24 + 4 * (w * i) + 4 * (w - 1) ≤ length s
      entry_inside i l = rw ew (omega (arith, table_inside, entry_four e, entries_four e i, entries_four e n, entries_first e i n l, entry_most e))

      pub closing_inside : 24 + 4 * (w * n) ≤ length s
      closing_inside = rw ew (omega (arith, table_inside, entries_four e n))

      pub entry_edges : {r : ℕ} (i : ℕ) → i < n → r ≡ word_at s (5 + w * i + (w - 1)) → r ≡ edges_in s i
      unfolding edges_in stroke_words
      entry_edges i l h =
          let t : ltb i (count_in s) ≡ true = lt-ltb i (count_in s) (omega (arith, l, a.vertices)) in
          let k : 5 + w * i + (w - 1) ≡ entry_at (Stroke (edition_of (edition_in s))) i + count_place (edition_of (edition_in s)) = rw places (omega arith) in
          rw (t, edges_in) (h ∙ ap (word_at s) k)

      pub closing_edges : {r : ℕ} (i : ℕ) → n ≤ i → r ≡ word_at s (5 + w * n) → r ≡ edges_in s i
      unfolding edges_in stroke_words
      closing_edges i l h =
          let t : ltb i (count_in s) ≡ false = le-ltb i (count_in s) (omega (arith, l, a.vertices)) in
          let k : 5 + w * n ≡ entry_at (Stroke (edition_of (edition_in s))) (count_in s) = rw (places, a.vertices) refl in
          rw (t, edges_in) (h ∙ ap (word_at s) k)

-- one body more
pub edges_next : (s : List ℕ) (k : ℕ) {sum more : ℕ} → sum ≡ edges_before s k → more ≡ edges_in s k → sum + more ≡ edges_before s (k + 1)
unfolding edges_before
edges_next s k e f = rw (add-one k, e, f)

-- ---- one sheet's body

refused_none : (r : Reply) (k : ℕ) → eqb r.0 0 ≡ false → 0 ≡ when_done r k 0
unfolding when_done
refused_none r k e = rw (e, when_done)

module _ {s : List ℕ} {n : ℕ} (a : BodiesInside s n) (i : ℕ) where
  pub body-none : n < i → LocatesIn s i (Err (NoVertex i))
  unfolding reply_of_located offset_of_located length_of_located body_reply body_row first_row when_done
  body-none l =
      let t : ltb (count_in s) i ≡ true = lt-ltb (count_in s) i (omega (arith, l, a.vertices)) in
      let e : (9, i) ≡ body_reply s i = rw (t, first_row) in
      record { reply = e; offset = rw (← e) refl; size = rw (← e) refl; inside = omega arith }

  -- its first byte, as the code has it
  module _ {base sum : ℕ} {e : Edition} (l : i ≤ n) (q : e ≡ edition_of (edition_in s)) (eb : base ≡ front_bytes (Stroke e) n) (es : sum ≡ edges_before s i) where
    starts : base + 16 * sum ≡ body_at s i
    unfolding body_at
    starts = λ j. (eb ∙ (λ k. front_bytes (Stroke (q k)) (a.vertices k))) j + 16 * es j

    pub body_starts : base + 16 * sum ≤ length s
    body_starts = omega (arith, starts, a.inside i l)

    pub body_some : {edges : ℕ} → edges ≡ edges_in s i → LocatesIn s i (Ok (record { offset = base + 16 * sum; edges = edges }))
    unfolding reply_of_located offset_of_located length_of_located body_reply body_row first_row when_done
    body_some ee =
        let t : ltb (count_in s) i ≡ false = le-ltb (count_in s) i (omega (arith, l, a.vertices)) in
        let r : (0, edges_in s i) ≡ body_reply s i = rw (t, first_row) in
        record {
          reply = ap (λ (k : ℕ). (0, k)) ee ∙ r;
          offset = starts ∙ rw (← r) refl;
          size = ap (λ (k : ℕ). 16 * k) ee ∙ rw (← r) refl;
          inside = omega (arith, starts, ee, a.inside i l);
        }

pub locates_as : {s t : List ℕ} {i : ℕ} {r : Result Located Refusal} → s ≡ t → LocatesIn s i r → LocatesIn t i r
locates_as e h = rw e at h

-- ---- both sheets

-- a sound sheet of a stroke
module _ {s : List ℕ} {h : Header} (a : Sound s h) where
  is_sound : sound_of s ≡ true
  is_sound = passed_sound s (first-none (store_rows s) (0, 0) (store_coded s) (ap (λ (r : Reply). r.0) (a.passed (0, 0))))

  module _ {e : Edition} (f : h.form ≡ Stroke e) where
    pub stroke_row : (other_kind_row s).0 ≡ false
    unfolding other_kind_row
    stroke_row = ap (λ (k : ℕ). eqb k kerb_kind) (a.head.headed.kind ∙ ap kind_word (sym a.head.form ∙ f))

    pub stroke_edition : e ≡ edition_of (edition_in s)
    stroke_edition = let g : Stroke e ≡ Stroke (edition_of (edition_in s)) = sym f ∙ a.head.form ∙ not_other s stroke_row in cc

    pub stroke_bodies : BodiesInside s h.n
    unfolding body_at
    stroke_bodies = record {
      vertices = a.head.vertices;
      inside = λ i l.
          let few : i ≤ length (path_in s) = omega (arith, l, a.head.vertices, path_count_in s) in
          body_inside_in s i (edition_of (edition_in s)) (not_other s stroke_row) a.within is_sound few;
    }

  kerb_row : {r : Refusal} → KerbRefused h.form r → ((other_kind_row s).0 ≡ true) × (r ≡ OtherKind 1)
  unfolding other_kind_row
  kerb_row (q, (y, f)) = (ap (λ (k : ℕ). eqb k kerb_kind) (a.head.headed.kind ∙ ap kind_word (sym a.head.form ∙ f)), q)

module _ (before after : List ℕ) (sheet : Sheet) (i : ℕ) where
  locates_refusal : (r : Refusal) → refusal_of r ≡ side_reply before after sheet i → Locates before after sheet i (Err r)
  unfolding reply_of_located offset_of_located length_of_located side_offset side_length
  locates_refusal r e =
      let f : eqb (side_reply before after sheet i).0 0 ≡ false = rw e at (refusal_some r) in
      record { reply = e; offset = refused_none _ _ f; size = refused_none _ _ f; inside = omega arith }

  pub locates_earlier : {p : List ℤ} {c : Result Header Refusal} {r : Refusal} → c ≡ Err r → StoreSays before p c → Locates before after sheet i (Err r)
  unfolding side_reply
  locates_earlier {r = r} e a = locates_refusal r (store_refuses _ _ a e)

  module _ {b : Header} (earlier : Sound before b) where
    pub locates_later : {p : List ℤ} {c : Result Header Refusal} {r : Refusal} → c ≡ Err r → StoreSays after p c → Locates before after sheet i (Err r)
    unfolding side_reply
    locates_later {r = r} e a = locates_refusal r (store_refuses _ _ a e ∙ sym (store_passes _ _ earlier))

    module _ {d : Header} (later : Sound after d) where
      passed_both : side_reply before after sheet i ≡ first_row (side_rows before after sheet i) (0, edges_in (chosen sheet before after) i)
      unfolding side_reply
      passed_both = store_passes _ _ earlier ∙ store_passes _ _ later

      locates_kerb : {r : Refusal} → ((other_kind_row before).0 || (other_kind_row after).0) ≡ true → r ≡ OtherKind 1 → Locates before after sheet i (Err r)
      unfolding side_rows either_kind_row first_row
      locates_kerb {r} t q = locates_refusal r (rw q (sym (passed_both ∙ rw (t, first_row))))

      pub kerb_before : {r : Refusal} → KerbRefused b.form r → Locates before after sheet i (Err r)
      kerb_before k = let q = kerb_row earlier k in locates_kerb (ap (λ (x : Bool). x || (other_kind_row after).0) q.0) q.1

      module _ {e : Edition} (f : b.form ≡ Stroke e) where
        pub kerb_after : {r : Refusal} → KerbRefused d.form r → Locates before after sheet i (Err r)
        kerb_after k = let q = kerb_row later k in locates_kerb (λ j. stroke_row earlier f j || q.0 j) q.1

        pub locates_body : {r : Result Located Refusal} {e' : Edition} → d.form ≡ Stroke e' → LocatesIn (chosen sheet before after) i r → Locates before after sheet i r
        unfolding side_rows either_kind_row first_row body_reply side_offset side_length
        locates_body f' a =
            let t : ((other_kind_row before).0 || (other_kind_row after).0) ≡ false = λ j. stroke_row earlier f j || stroke_row later f' j in
            let g : side_reply before after sheet i ≡ body_reply (chosen sheet before after) i = passed_both ∙ rw (t, first_row) in
            record {
              reply = a.reply ∙ sym g;
              offset = a.offset ∙ ap (λ (x : Reply). when_done x (body_at (chosen sheet before after) i) 0) (sym g);
              size = a.size ∙ ap (λ (x : Reply). when_done x (edge_bytes * edges_in (chosen sheet before after) i) 0) (sym g);
              inside = a.inside;
            }

-- ---- the part

module _ {before after : List ℕ} {sheet : Sheet} {i : ℕ} {x : Result Located Refusal} (a : Locates before after sheet i x) where
  module _ {o k : ℕ} (e : x ≡ Ok (record { offset = o; edges = k })) where
    located : Locates before after sheet i (Ok (record { offset = o; edges = k }))
    located = rw e at a

    pub part_inside : o + 16 * k ≤ length (chosen sheet before after)
    unfolding offset_of_located length_of_located
    part_inside = located.inside

    pub part_fits : length before < 2 ^ 64 → length after < 2 ^ 64 → o + 16 * k < 2 ^ 64
    part_fits b d = omega (arith, part_inside, of_chosen (λ (l : List ℕ). length l < 2 ^ 64) sheet before after b d)

    pub hands_body : {l : List ℕ} → l ≡ chosen sheet before after → HandsBack before after sheet i 0 k (take (o + 16 * k - o) (drop o l))
    unfolding reply_of_located offset_of_located length_of_located side_offset side_length side_part body_bytes_in body_at when_done
    hands_body h =
        let r : (0, k) ≡ side_reply before after sheet i = located.reply in
        let s = chosen sheet before after in
        let f : o ≡ body_at s i = located.offset ∙ ap (λ (t : Reply). when_done t (body_at s i) 0) (sym r) in
        let g : 16 * k ≡ 16 * edges_in s i = located.size ∙ ap (λ (t : Reply). when_done t (16 * edges_in s i) 0) (sym r) in
        let c : take (o + 16 * k - o) (drop o s) ≡ body_bytes_in s i = ap (λ (n : ℕ). take n (drop o s)) (add-sub_cancel_left o (16 * k)) ∙ (λ j. take (g j) (drop (f j) s)) in
        record { told = r; part = ap (λ (l : List ℕ). take (o + 16 * k - o) (drop o l)) h ∙ c ∙ ap (λ (t : Reply). when_done t (body_bytes_in s i) []) r }

  pub hands_nothing : {r : Refusal} {c : Code} → x ≡ Err r → Codes c (refusal_of r) → HandsBack before after sheet i c.reply c.number []
  unfolding reply_of_located side_part when_done
  hands_nothing {r} {c} e f =
      let q : refusal_of r ≡ side_reply before after sheet i = ap reply_of_located (sym e) ∙ a.reply in
      let z : eqb (side_reply before after sheet i).0 0 ≡ false = rw q at (refusal_some r) in
      record { told = (λ j. (f.reply j, f.number j)) ∙ q; part = rw (z, when_done) refl }

-- ---- one outcome

made : ℕ → ℕ → Result Located Refusal
made o k = Ok (record { offset = o; edges = k })

located_back : (r : Result Located Refusal) → from (made (offset_of_located r)) Err (reply_of_located r).0 (reply_of_located r).1 ≡ r
unfolding from reply_of_located offset_of_located made
located_back (Ok body) = refl
located_back (Err r) = from_refusal (made 0) Err r

pub one_side : OneSide
one_side before after sheet i r q h k =
    sym (located_back r) ∙ (λ j. from (made ((h.offset ∙ sym k.offset) j)) Err ((h.reply ∙ sym k.reply) j).0 ((h.reply ∙ sym k.reply) j).1) ∙ located_back q

pub one_part : OnePart
one_part before after sheet i a b n m p q h k =
    let t = h.told ∙ sym k.told in
    (ap (λ (r : Reply). r.0) t, ap (λ (r : Reply). r.1) t, h.part ∙ sym k.part)

-- ---- by the rules

pub part_is_body : PartIsBody
unfolding side_reply side_part when_done side_rows either_kind_row body_row body_bytes_in body_at
part_is_body before after sheet i h =
    let s = chosen sheet before after in
    let last : Reply = (0, edges_in s i) in
    let rows = side_rows before after sheet i in
    let b = rows_zero (store_rows before) (store_rows after ++ rows) last (store_coded before) h in
    let a = rows_zero (store_rows after) rows last (store_coded after) (ap (λ (r : Reply). r.0) (sym b.1) ∙ h) in
    let c = first-none rows last (refl, (refl, tt)) (ap (λ (r : Reply). r.0) (sym (b.1 ∙ a.1)) ∙ h) in
    let k = either _ _ c.0 in
    let none = of_chosen (λ (x : List ℕ). NoneHold (store_rows x)) sheet before after b.0 a.0 in
    let stroke = not_other s (of_chosen (λ (x : List ℕ). (other_kind_row x).0 ≡ false) sheet before after k.0 k.1) in
    let few : i ≤ length (path_in s) = omega (arith, path_count_in s, ltb-false (count_in s) i c.1.0) in
    let e = edition_of (edition_in s) in
    let body = get_or (bodies_in s) i [] in
    let bytes : body_bytes_in s i ≡ bytes_of (body_words body) = body_bytes_in_lem s i e stroke (passed_within s none) (passed_sound s none) few in
    let inside = body_inside_in s i e stroke (passed_within s none) (passed_sound s none) few in
    let long : length (body_bytes_in s i) ≡ 16 * edges_in s i = length-take-le (16 * edges_in s i) (drop (body_at s i) s) (omega (arith, inside, length-drop (body_at s i) s)) in
    let r : side_reply before after sheet i ≡ last = b.1 ∙ a.1 ∙ none_last rows last c in (
      ap (λ (x : Reply). when_done x (body_bytes_in s i) []) r ∙ bytes,
      ap (λ (x : Reply). x.1) r ∙ omega (arith, long, ap length bytes, bytes-length (body_words body), numbers_length body),
    )
