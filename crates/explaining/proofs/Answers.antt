-- What explain and list answer: over a path, of a store that its rows refuse, and of one that passed them. Assumes nothing.
use Rattle.std.specs.Prelude.{Result, Ok, Err, Option, Some, None}
use mathlib.Core.Path.{◌≡◌, refl, sym, ap, ◌∙◌}
use mathlib.Core.Bool.{Bool, true, false, true≢false}
use mathlib.Core.List.{List, [], ◌∷◌}
use Prim.Native.Nat.{ℕ, ◌*◌, ◌≤◌, ◌<◌}
use native.Mathlib.Omega.{arith}
use borrow.Author.Tests.{ltb-true, ltb-false, le-leb, lt-leb}
use lib.Dec.{eqb, ltb, leb}
use lib.IntN.{ℤ}
use lib.ListN.{length, get_or, take, drop}
use Rattle.runs.specs.Runs.{spread, over, put}
use Rattle.runs.proofs.Written.{over_whole}
use Rattle.paths.specs.Paths.{path_of, Within}
use Rattle.outline.specs.Stores.{grade_in, path_in}
use Rattle.replies.specs.Replies.{Reply, first_row, room_row, written}
use Rattle.replies.specs.Refusals.{refusal_of, reply_of}
use Rattle.replies.specs.declared.Refusal.{Refusal}
use Rattle.replies.specs.declared.Refusal.TheVariants.{NoEdge, NoRoom}
use Rattle.replies.proofs.Rows.{room_short, room_enough, refusal_some, refused_written, done_written}
use Rattle.checking.specs.StoreChecks.{StoreSays}
use Rattle.heading.specs.declared.Header.{Header}
use Rattle.heading.specs.Headers.{KerbRefused}
use Rattle.heading.proofs.Shown.{path_back}
use Rattle.checking.proofs.StoreReads.{store_refuses, store_passes, header_count}
use Rattle.checking.proofs.OtherKinds.{stroke_passes, kerb_refused}
use Rattle.outline.specs.declared.Edition.{Edition}
use Rattle.outline.specs.declared.Form.TheVariants.{Stroke}
use Rattle.checking.specs.Known.{Passed}
use Rattle.checking.proofs.KnownStore.{known, known_few, known_edges}
use Rattle.reasons.specs.Reasons.{whys_of}
use Rattle.reasons.specs.Lists.{why_numbers, unnamed, explanation_of}
use Rattle.reasons.proofs.Listed.{whys_five}
use Rattle.reasons.proofs.OneReason.{one_reason}
use Rattle.reasons.specs.declared.Why.{Why}
use Rattle.explaining.specs.Explaining.{whys_in, edge_row, explain_reply, explain_why, reply_of_explained, why_of_explained, Explains, ExplainsIn, list_reply, list_out, Lists, ListsIn}
use Rattle.explaining.specs.declared.Explained.{Explained}

-- ---- the row of the edge

apart : {w : Why} → ◌≡◌ {A = Option Why} (Some w) None → ⊥
apart e = true≢false (ap is e)
  where
    is : Option Why → Bool
    is (Some v) = true
    is None = false

-- an edge that was found is there, and one that was not is not
found : (ws : List Why) (k : ℕ) {w : Why} → Some w ≡ explanation_of ws k → (k < length ws) × (w ≡ get_or ws k unnamed)
unfolding explanation_of
found ws k {w} e = go (ltb k (length ws)) refl e
  where
    why : Option Why → Why
    why (Some v) = v
    why None = w

    go : (x : Bool) → ltb k (length ws) ≡ x → Some w ≡ (elim x [ true ↦ Some (get_or ws k unnamed) | false ↦ None ]) → (k < length ws) × (w ≡ get_or ws k unnamed)
    go true f g = (ltb-true k (length ws) f, ap why g)
    go false f g = absurd (apart g)

lost : (ws : List Why) (k : ℕ) → ◌≡◌ {A = Option Why} None (explanation_of ws k) → length ws ≤ k
unfolding explanation_of
lost ws k e = go (ltb k (length ws)) refl e
  where
    go : (x : Bool) → ltb k (length ws) ≡ x → ◌≡◌ {A = Option Why} None (elim x [ true ↦ Some (get_or ws k unnamed) | false ↦ None ]) → length ws ≤ k
    go true f g = absurd (apart (sym g))
    go false f g = ltb-false k (length ws) f

module _ (ws : List Why) (k : ℕ) {x : Option Why} (told : x ≡ explanation_of ws k) where
  pub explains_edge : {w : Why} → x ≡ Some w → ExplainsIn ws k (Ok (record { edge = k; why = w }))
  unfolding reply_of_explained why_of_explained first_row edge_row
  explains_edge e =
      let f = found ws k (sym e ∙ told) in
      let g : leb (length ws) k ≡ false = lt-leb (length ws) k f.0 in
      record { reply = rw (g, first_row); why = rw g f.1 }

  pub explains_none : x ≡ None → ExplainsIn ws k (Err (NoEdge k))
  unfolding reply_of_explained why_of_explained first_row edge_row
  explains_none e =
      let g : leb (length ws) k ≡ true = le-leb (length ws) k (lost ws k (sym e ∙ told)) in
      record { reply = rw (g, first_row); why = rw g refl }

-- ---- the row of the room, of m edges

module _ (ws : List Why) (out : List ℕ) {m : ℕ} (e : m ≡ length ws) where
  pub lists_short : length out < 5 * m → ListsIn ws out (Err (NoRoom m)) out
  lists_short h =
      let f : (5, m) ≡ first_row (room_row (5 * length ws) (length out) (length ws) ∷ []) (0, length ws) = ap (λ (k : ℕ). (5, k)) e ∙ sym (room_short (5 * length ws) (length out) (length ws) (0, length ws) (omega (arith, e, h))) in
      record { reply = f; out = refused_written (NoRoom m) (spread why_numbers ws) out f }

  pub lists_done : {out₁ : List ℕ} → 5 * m ≤ length out → out₁ ≡ over put out 0 (drop 0 (spread why_numbers ws)) → ListsIn ws out (Ok m) out₁
  lists_done h eo =
      let f : (0, m) ≡ first_row (room_row (5 * length ws) (length out) (length ws) ∷ []) (0, length ws) = ap (λ (k : ℕ). (0, k)) e ∙ sym (room_enough (5 * length ws) (length out) (length ws) (0, length ws) (omega (arith, e, h))) in
      record {
        reply = f;
        out = eo ∙ over_whole out (spread why_numbers ws) (omega (arith, e, h, whys_five ws)) ∙ done_written m (spread why_numbers ws) out f;
      }

-- ---- a store that its rows refuse

explains_refusal : {s : List ℕ} (k : ℕ) (r : Refusal) → refusal_of r ≡ explain_reply s k → Explains s k (Err r)
unfolding reply_of_explained why_of_explained explain_why
explains_refusal {s} k r e =
    let f : eqb (explain_reply s k).0 0 ≡ false = rw e at (refusal_some r) in
    record { reply = e; why = rw (f, explain_why) }

pub explains_refused : {s : List ℕ} {p : List ℤ} {c : Result Header Refusal} {r : Refusal} (k : ℕ) → c ≡ Err r → StoreSays s p c → Explains s k (Err r)
unfolding explain_reply
explains_refused {r = r} k e a = explains_refusal k r (store_refuses _ _ a e)

lists_refusal : {s : List ℕ} (out : List ℕ) (r : Refusal) → refusal_of r ≡ list_reply s (length out) → Lists s out (Err r) out
unfolding list_out
lists_refusal {s} out r e = record { reply = e; out = refused_written r (spread why_numbers (whys_in s)) out e }

pub lists_refused : {s : List ℕ} {p : List ℤ} {c : Result Header Refusal} {r : Refusal} (out : List ℕ) → c ≡ Err r → StoreSays s p c → Lists s out (Err r) out
unfolding list_reply
lists_refused {r = r} out e a = lists_refusal out r (store_refuses _ _ a e)

-- ---- a store that passed them

picked : (ws : List Why) (k : ℕ) → ◌≡◌ {A = Why} (elim (leb (length ws) k) [ true ↦ unnamed | false ↦ get_or ws k unnamed ]) (elim (eqb (first_row (edge_row (length ws) k ∷ []) (0, k)).0 0) [ true ↦ get_or ws k unnamed | false ↦ unnamed ])
unfolding first_row edge_row
picked ws k = go (leb (length ws) k)
  where
    go : (x : Bool) → ◌≡◌ {A = Why} (elim x [ true ↦ unnamed | false ↦ get_or ws k unnamed ]) (elim (eqb (elim x as (λ _. Reply) [ true ↦ (10, k) | false ↦ (0, k) ]).0 0) [ true ↦ get_or ws k unnamed | false ↦ unnamed ])
    go true = refl
    go false = refl

module _ {s : List ℕ} {p : List ℤ} {h : Header} (a : Passed s p h) where
  -- of a kerb
  pub explains_other : {r : Refusal} (k : ℕ) → KerbRefused h.form r → Explains s k (Err r)
  unfolding explain_reply
  explains_other {r} k (q, (y, e)) = explains_refusal k r (rw q (kerb_refused a.sound.head _ _ e ∙ sym (store_passes _ _ a.sound)))

  pub lists_other : {r : Refusal} (out : List ℕ) → KerbRefused h.form r → Lists s out (Err r) out
  unfolding list_reply
  lists_other {r} out (q, (y, e)) = lists_refusal out r (rw q (kerb_refused a.sound.head _ _ e ∙ sym (store_passes _ _ a.sound)))

  -- of a stroke
  module _ {d : Edition} (e : h.form ≡ Stroke d) where
    pub numbers_held : 3 * h.n ≤ length p
    numbers_held = (known_few (known a e)).1

    -- the store's path is what stands at the front of the numbers: i is what the code has for how many numbers that is
    module _ {i : ℕ} (f : i ≡ 3 * h.n) where
      shown : path_of (take i p) ≡ path_in s
      shown = ap (λ (k : ℕ). path_of (take k p)) f ∙ ap path_of (known a e).path ∙ path_back (path_in s)

      -- what the calls over the path ask for
      pub path_held : (h.n ≡ length (path_of (take i p))) × Within h.grade (path_of (take i p))
      path_held = (header_count a.sound.head ∙ ap length (sym shown), rw (shown, a.sound.head.grade) a.sound.within)

      whys_shown : whys_of h.grade (path_of (take i p)) ≡ whys_in s
      unfolding whys_in
      whys_shown = rw (shown, a.sound.head.grade)

      -- as many edges as its header says
      pub edges_held : h.m ≡ length (whys_of h.grade (path_of (take i p)))
      unfolding whys_in
      edges_held = known_edges (known a e) ∙ sym (one_reason (grade_in s) (path_in s)) ∙ ap length (sym whys_shown)

      pub explains_passed : {r : Result Explained Refusal} (k : ℕ) → ExplainsIn (whys_of h.grade (path_of (take i p))) k r → Explains s k r
      unfolding explain_reply explain_why
      explains_passed {r} k q =
          let f : ExplainsIn (whys_in s) k r = rw whys_shown at q in
          let g : explain_reply s k ≡ first_row (edge_row (length (whys_in s)) k ∷ []) (0, k) = store_passes _ _ a.sound ∙ stroke_passes a.sound.head _ _ e in
          record { reply = f.reply ∙ sym g; why = f.why ∙ rw (g, explain_why) (picked (whys_in s) k) }

      pub lists_passed : {r : Result ℕ Refusal} {out out₁ : List ℕ} → ListsIn (whys_of h.grade (path_of (take i p))) out r out₁ → Lists s out r out₁
      unfolding list_reply list_out
      lists_passed {r} {out} {out₁} q =
          let f : ListsIn (whys_in s) out r out₁ = rw whys_shown at q in
          let g : list_reply s (length out) ≡ first_row (room_row (5 * length (whys_in s)) (length out) (length (whys_in s)) ∷ []) (0, length (whys_in s)) = store_passes _ _ a.sound ∙ stroke_passes a.sound.head _ _ e in
          record { reply = f.reply ∙ sym g; out = f.out ∙ ap (λ (t : Reply). written t (spread why_numbers (whys_in s)) out) (sym g) }
