-- Rows of replies: one list after another, what a refusal leaves in lent memory, and that the reply 0 means that every row failed. Assumes nothing.
use mathlib.Core.Path.{◌≡◌, refl, sym, ap, ◌∙◌}
use mathlib.Core.Bool.{Bool, true, false, true≢false, ◌&&◌, ◌||◌}
use mathlib.Core.List.{List, [], ◌∷◌, ◌++◌}
use Prim.Native.Nat.{ℕ, zero, suc, ◌≤◌, ◌<◌}
use native.Mathlib.Omega.{arith}
use lib.ListN.{length, drop}
use borrow.Author.Tests.{le-ltb, lt-ltb, ltb-false, eq-eqb, ne_eqb}
use Rattle.replies.specs.Replies.{Row, Reply, first_row, draw_grade_row, empty_row, room_row, written}
use lib.Dec.{eqb, ltb}
use Rattle.replies.specs.Refusals.{refusal_of}
use Rattle.replies.specs.declared.Refusal.{Refusal}
use Rattle.replies.specs.declared.Refusal.TheVariants.{Uneven, TooMany, Grade, Outside, NoRoom, NotOutline, Kind, NotSound, NoVertex, NoEdge, StyleWord, OtherKind, NotTaken, Damaged, KeyThere, KeyMissing, TableFull, WithoutEdges, NoListRoom}

abbrev pub NoneHold : List Row → Type 0
NoneHold [] = Unit {0}
NoneHold (row ∷ rows) = (row.0 ≡ false) × NoneHold rows

-- a row that holds replies
pub first_holds : (row : Row) (rows : List Row) (last : Reply) → row.0 ≡ true → first_row (row ∷ rows) last ≡ row.1
unfolding first_row
first_holds row rows last h = rw (h, first_row)

pub first_skip : (rows more : List Row) (last : Reply) → NoneHold rows → first_row (rows ++ more) last ≡ first_row more last
unfolding first_row
first_skip [] more last h = refl
first_skip (row ∷ rows) more last h = rw (h.0, first_row) (first_skip rows more last h.1)

-- where none holds the last word is the reply
pub none_last : (rows : List Row) (last : Reply) → NoneHold rows → first_row rows last ≡ last
unfolding first_row
none_last [] last h = refl
none_last (row ∷ rows) last h = rw (h.0, first_row) (none_last rows last h.1)

-- rows after rows: where no earlier row holds the later ones reply
pub rows_append {ℓ} : {A : Type ℓ} (rs qs : List (Bool × A)) (last : A) → first_row (rs ++ qs) last ≡ first_row rs (first_row qs last)
unfolding first_row
rows_append [] qs last = refl
rows_append (r ∷ rs) qs last = λ i. elim r.0 [ true ↦ r.1 | false ↦ rows_append rs qs last i ]

-- the row of a grade to draw at
pub grade_drawn : {g : ℕ} → 2 ≤ g → g ≤ 8 → (draw_grade_row g).0 ≡ false
unfolding draw_grade_row
grade_drawn {g} low high = rw (le-ltb g 2 low, le-ltb 8 g high)

pub grade_retired : {g : ℕ} → g < 2 → (draw_grade_row g).0 ≡ true
unfolding draw_grade_row
grade_retired {g} h = rw (lt-ltb g 2 h)

pub grade_above : {g : ℕ} → 2 ≤ g → 8 < g → (draw_grade_row g).0 ≡ true
unfolding draw_grade_row
grade_above {g} low h = rw (le-ltb g 2 low, lt-ltb 8 g h)

-- the row of a path without edges
and_false : (b : Bool) → (b && false) ≡ false
and_false true = refl
and_false false = refl

pub empty_holds : (n m : ℕ) (rows : List Row) (last : Reply) → 0 < n → m ≡ 0 → first_row (empty_row n m ∷ rows) last ≡ (18, n)
unfolding first_row empty_row
empty_holds n m rows last h e = rw (lt-ltb 0 n h, eq-eqb m 0 e, first_row)

pub empty_fails : (n m : ℕ) (rows : List Row) (last : Reply) → 0 < m → first_row (empty_row n m ∷ rows) last ≡ first_row rows last
unfolding first_row empty_row
empty_fails n m rows last h = rw (ne_eqb m 0 (λ e. omega (arith, h, e)), and_false (ltb 0 n), first_row)

pub no_vertices : (m : ℕ) (rows : List Row) (last : Reply) → first_row (empty_row 0 m ∷ rows) last ≡ first_row rows last
unfolding first_row empty_row
no_vertices m rows last = refl

-- with one vertex or more there is an edge: the row fails, and a row that failed says so
pub empty_passes : (n m : ℕ) (rows : List Row) (last : Reply) → (0 < n → 0 < m) → first_row (empty_row n m ∷ rows) last ≡ first_row rows last
empty_passes zero m rows last h = no_vertices m rows last
empty_passes (suc n) m rows last h = empty_fails (suc n) m rows last (h (omega arith))

pub empty_not : (n m : ℕ) → (empty_row n m).0 ≡ false → 0 < n → 0 < m
unfolding empty_row
empty_not n zero e h = absurd (true≢false (sym (rw (lt-ltb 0 n h)) ∙ e))
empty_not n (suc m) e h = omega arith

-- the row of the room lent
pub room_short : (needed room number : ℕ) (last : Reply) → room < needed → first_row (room_row needed room number ∷ []) last ≡ (5, number)
unfolding first_row room_row
room_short needed room number last h = rw (lt-ltb room needed h, first_row)

pub room_enough : (needed room number : ℕ) (last : Reply) → needed ≤ room → first_row (room_row needed room number ∷ []) last ≡ last
unfolding first_row room_row
room_enough needed room number last h = rw (le-ltb room needed h, first_row)

-- a refusal's number is not 0, so lent memory stays; after 0 the result stands first
pub refusal_some : (r : Refusal) → eqb (refusal_of r).0 0 ≡ false
refusal_some (Uneven n) = refl
refusal_some (TooMany n) = refl
refusal_some (Grade g) = refl
refusal_some (Outside i) = refl
refusal_some (NoRoom n) = refl
refusal_some NotOutline = refl
refusal_some (Kind k) = refl
refusal_some (NotSound i) = refl
refusal_some (NoVertex i) = refl
refusal_some (NoEdge i) = refl
refusal_some (StyleWord i) = refl
refusal_some (OtherKind k) = refl
refusal_some (NotTaken i) = refl
refusal_some Damaged = refl
refusal_some (KeyThere k) = refl
refusal_some (KeyMissing k) = refl
refusal_some (TableFull n) = refl
refusal_some (WithoutEdges n) = refl
refusal_some (NoListRoom n) = refl

pub refused_written {ℓ} : {A : Type ℓ} (r : Refusal) {reply : Reply} (made room : List A) → refusal_of r ≡ reply → room ≡ written reply made room
unfolding written
refused_written r {reply} made room e = let h : eqb reply.0 0 ≡ false = rw e at (refusal_some r) in rw (h, written)

pub done_written {ℓ} : {A : Type ℓ} (n : ℕ) {reply : Reply} (made room : List A) → (0, n) ≡ reply → made ++ drop (length made) room ≡ written reply made room
unfolding written
done_written n {reply} made room e = rw (← e)

-- ---- rows: each has a number other than 0, so the reply 0 says that none holds

abbrev pub Coded : List Row → Type 0
Coded [] = Unit {0}
Coded (row ∷ rows) = (eqb row.1.0 0 ≡ false) × Coded rows

pub first-none : (rows : List Row) (last : Reply) → Coded rows → (first_row rows last).0 ≡ 0 → NoneHold rows
unfolding first_row
first-none [] last e h = tt
first-none (row ∷ rows) last e h = go row.0 refl h (first-none rows last e.1)
  where
    go : (x : Bool) → row.0 ≡ x → (elim x as (λ _. Reply) [ true ↦ row.1 | false ↦ first_row rows last ]).0 ≡ 0 → ((first_row rows last).0 ≡ 0 → NoneHold rows) → (row.0 ≡ false) × NoneHold rows
    go true f k r = absurd (true≢false (sym (eq-eqb row.1.0 0 k) ∙ e.0))
    go false f k r = (f, r k)

-- rows after rows: where the reply is 0 none of the first holds, and the others reply
pub rows_zero : (rs qs : List Row) (last : Reply) → Coded rs → (first_row (rs ++ qs) last).0 ≡ 0 → NoneHold rs × (first_row (rs ++ qs) last ≡ first_row qs last)
rows_zero rs qs last k e =
    let a = rows_append rs qs last in
    let n = first-none rs (first_row qs last) k (ap (λ (r : Reply). r.0) (sym a) ∙ e) in
    (n, a ∙ none_last rs (first_row qs last) n)

pub either : (a b : Bool) → (a || b) ≡ false → (a ≡ false) × (b ≡ false)
either true b e = absurd (true≢false e)
either false b e = (refl, e)

-- a grade whose row failed is drawn at
pub grade_from : (g : ℕ) → (draw_grade_row g).0 ≡ false → (2 ≤ g) × (g ≤ 8)
unfolding draw_grade_row
grade_from g h = let e = either (ltb g 2) (ltb 8 g) h in (ltb-false g 2 e.0, ltb-false 8 g e.1)
