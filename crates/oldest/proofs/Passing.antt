-- A pass over lent numbers, whatever its two rules: one law for each row that replies, what an accepted pass says, and that two passes undo each
-- other where their rules do. Assumes nothing.
use Rattle.std.proofs.Common.{◌≡◌, ℕ, ◌/◌, ◌%◌, ◌<◌, ◌≤◌, Bool, true, false, not, eqb, ltb, List, [], ◌∷◌, ◌++◌, length, drop, refl, ap, ◌∙◌, zero-add, arith, ltb-false, le-ltb, lt-ltb, eq-eqb, ne_eqb, eqb-true}
use mathlib.Core.Option.{Option}
use Rattle.runs.proofs.Written.{over_whole}
use Rattle.replies.specs.Replies.{Reply, first_row, triples_row, count_row, room_row, written}
use Rattle.oldest.specs.Calls.{in_threes, taken_of, untaken_row, pass_reply, pass_out}
use Rattle.oldest.specs.Converts.{Converts, Passes}
use Rattle.oldest.proofs.Walking.{taken_most, threes_length}

module _ {A B : Type 0} (f g : A → Option B) (l : List A) (out : List B) where
  refused : {k n : ℕ} → eqb k 0 ≡ false → (k, n) ≡ pass_reply f g l (length out) → Passes f g l out (k, n) out
  unfolding pass_out written
  refused h e = record { reply = e; out = rw (← e, written, h, written) }

  pub not_triples : (length l % 3 ≡ 0 → ⊥) → Passes f g l out (1, length l) out
  unfolding pass_reply triples_row first_row
  not_triples h = refused refl (rw (ne_eqb (length l % 3) 0 h, first_row))

  module _ (h₁ : length l % 3 ≡ 0) where
    pub too_many : 4096 < length l / 3 → Passes f g l out (2, length l / 3) out
    unfolding pass_reply triples_row count_row first_row
    too_many h = refused refl (rw (eq-eqb (length l % 3) 0 h₁, first_row, lt-ltb 4096 (length l / 3) h, first_row))

    module _ (h₂ : length l / 3 ≤ 4096) {r : ℕ} {seen seen₁ : List B} (w : Converts (in_threes f g l) 0 seen r seen₁) where
      size : length (in_threes f g l) ≡ length l
      size = threes_length f g l h₁

      pub not_taken : r < length l → Passes f g l out (13, r) out
      unfolding pass_reply triples_row count_row untaken_row first_row
      not_taken h =
          refused refl
          (rw (eq-eqb (length l % 3) 0 h₁, first_row, le-ltb 4096 (length l / 3) h₂, first_row, lt-ltb (length (taken_of (in_threes f g l))) (length (in_threes f g l)) (omega (arith, w.place, size)), first_row)
          (ap (λ (n : ℕ). (13, n)) (w.place ∙ zero-add (length (taken_of (in_threes f g l))))))

      module _ (h₃ : length l ≤ r) where
        pub no_room : length out < length l → Passes f g l out (5, length l / 3) out
        unfolding pass_reply triples_row count_row untaken_row room_row first_row
        no_room h =
            refused refl
            (rw (eq-eqb (length l % 3) 0 h₁, first_row, le-ltb 4096 (length l / 3) h₂, first_row, le-ltb (length (taken_of (in_threes f g l))) (length (in_threes f g l)) (omega (arith, w.place, size)), first_row, lt-ltb (length out) (length l) h, first_row))

-- ---- a pass that is accepted

-- every row is passed
pub record Accepted {A B : Type 0} (f g : A → Option B) (l : List A) (room : ℕ) : Type 0 where
  pub triples : length l % 3 ≡ 0
  pub few : length l / 3 ≤ 4096
  pub all : length (taken_of (in_threes f g l)) ≡ length l
  pub fits : length l ≤ room

module _ {A B : Type 0} {f g : A → Option B} {l : List A} where
  pub accepted_reply : {room : ℕ} → Accepted f g l room → (0, length l / 3) ≡ pass_reply f g l room
  unfolding pass_reply triples_row count_row untaken_row room_row first_row
  accepted_reply {room} a =
      rw (eq-eqb (length l % 3) 0 a.triples, first_row, le-ltb 4096 (length l / 3) a.few, first_row, le-ltb (length (taken_of (in_threes f g l))) (length (in_threes f g l)) (omega (arith, a.all, threes_length f g l a.triples)), first_row, le-ltb room (length l) a.fits, first_row)

  pub accepted_out : (out : List B) → Accepted f g l (length out) → taken_of (in_threes f g l) ++ drop (length (taken_of (in_threes f g l))) out ≡ pass_out f g l out
  unfolding pass_out written
  accepted_out out a = rw (← accepted_reply a)

  -- what the walk over the room lent has made
  pub done : {out out₁ : List B} {r : ℕ} → length l % 3 ≡ 0 → length l / 3 ≤ 4096 → Converts (in_threes f g l) 0 out r out₁ → length l ≤ r → length l ≤ length out → Passes f g l out (0, length l / 3) out₁
  done {out} h₁ h₂ w h₃ h₄ =
      let size = threes_length f g l h₁ in
      let all : length (taken_of (in_threes f g l)) ≡ length l = omega (arith, w.place, taken_most (in_threes f g l), size) in
      let a : Accepted f g l (length out) = record { triples = h₁; few = h₂; all = all; fits = h₄ } in
      record {
        reply = accepted_reply a;
        out = w.out (omega (arith, all, size)) ∙ over_whole out (taken_of (in_threes f g l)) (omega (arith, all)) ∙ accepted_out out a;
      }

  pub accepted : {room : ℕ} → (pass_reply f g l room).0 ≡ 0 → Accepted f g l room
  unfolding pass_reply triples_row count_row untaken_row room_row first_row
  accepted {room} =
      go (eqb (length l % 3) 0) (ltb 4096 (length l / 3)) (ltb (length (taken_of (in_threes f g l))) (length (in_threes f g l))) (ltb room (length l)) refl refl refl refl
    where
      go : (a b c d : Bool) → eqb (length l % 3) 0 ≡ a → ltb 4096 (length l / 3) ≡ b → ltb (length (taken_of (in_threes f g l))) (length (in_threes f g l)) ≡ c → ltb room (length l) ≡ d
          → (first_row {A = Reply} ((not a, (1, length l)) ∷ (b, (2, length l / 3)) ∷ (c, (13, length (taken_of (in_threes f g l)))) ∷ (d, (5, length l / 3)) ∷ []) (0, length l / 3)).0 ≡ 0 → Accepted f g l room
      go false b c d ea eb ec ed h = absurd (omega arith)
      go true true c d ea eb ec ed h = absurd (omega arith)
      go true false true d ea eb ec ed h = absurd (omega arith)
      go true false false true ea eb ec ed h = absurd (omega arith)
      go true false false false ea eb ec ed h =
          let t = eqb-true (length l % 3) 0 ea in
          record {
            triples = t;
            few = ltb-false 4096 (length l / 3) eb;
            all = omega (arith, taken_most (in_threes f g l), ltb-false (length (taken_of (in_threes f g l))) (length (in_threes f g l)) ec, threes_length f g l t);
            fits = ltb-false room (length l) ed;
          }
