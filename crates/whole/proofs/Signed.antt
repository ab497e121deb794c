-- Signed whole numbers: z is `up z` less `down z`, of which one is 0, so that an equation or an order of signed numbers is one of natural
-- numbers, for `omega`. Then the laws of the ring. Assumes nothing.
use mathlib.Core.Path.{◌≡◌, refl, sym, ap, ◌∙◌}
use mathlib.Core.Bool.{Bool, true, false, not, cond}
use Prim.Native.Nat.{ℕ, zero, suc, ◌+◌, ◌-◌, ◌*◌, ◌≤◌, ◌<◌}
use native.Mathlib.Nat.{mul-add, add-mul, mul_assoc, mul_comm, mul-zero, zero-mul}
use native.Mathlib.Omega.{arith}
use lib.Dec.{T, ltb, leb→le, le→leb, ltb→lt, nltb→le}
use lib.IntN.{ℤ, pos, negsuc, neg_ℤ, nat_abs, sub_ℕ, ◌+ℤ◌, ◌*ℤ◌}
use lib.Signed.{◌≤ℤ◌}

abbrev pub up : ℤ → ℕ
up (pos n) = n
up (negsuc n) = 0

abbrev pub down : ℤ → ℕ
down (pos n) = 0
down (negsuc n) = suc n

-- ---- p less q, as `lib.IntN` has it

cond_ind : {X : Type 0} (c : Bool) (x y : X) (P : X → Type 0) → (T c → P x) → (T (not c) → P y) → P (cond c x y)
cond_ind true x y P f g = f tt
cond_ind false x y P f g = g tt

-- ---- up and down of each operation

pub sub_balance : (p q : ℕ) → up (sub_ℕ p q) + q ≡ down (sub_ℕ p q) + p
sub_balance p q = cond_ind (ltb p q) (negsuc (q - suc p)) (pos (p - q)) (λ z. up z + q ≡ down z + p)
    (λ t. low p q (ltb→lt p q t)) (λ t. high p q (nltb→le p q t))
  where
    low : (p q : ℕ) → p < q → 0 + q ≡ suc (q - suc p) + p
    low p q h = omega arith

    high : (p q : ℕ) → q ≤ p → p - q + q ≡ 0 + p
    high p q h = omega arith

pub add_balance : (a b : ℤ) → up (a +ℤ b) + down a + down b ≡ down (a +ℤ b) + up a + up b
add_balance (pos a) (pos b) = omega arith
add_balance (pos a) (negsuc b) = omega (arith, sub_balance a (suc b))
add_balance (negsuc a) (pos b) = omega (arith, sub_balance b (suc a))
add_balance (negsuc a) (negsuc b) = omega arith

pub up-neg : (a : ℤ) → up (neg_ℤ a) ≡ down a
up-neg (pos zero) = refl
up-neg (pos (suc n)) = refl
up-neg (negsuc n) = refl

pub down-neg : (a : ℤ) → down (neg_ℤ a) ≡ up a
down-neg (pos zero) = refl
down-neg (pos (suc n)) = refl
down-neg (negsuc n) = refl

pub up-mul : (a b : ℤ) → up (a *ℤ b) ≡ up a * up b + down a * down b
up-mul (pos a) (pos b) = simp (mul-zero, zero-mul) (omega arith)
up-mul (pos a) (negsuc b) = up-neg (pos (a * suc b)) ∙ simp (mul-zero, zero-mul) (omega arith)
up-mul (negsuc a) (pos b) = up-neg (pos (suc a * b)) ∙ simp (mul-zero, zero-mul) (omega arith)
up-mul (negsuc a) (negsuc b) = simp (mul-zero, zero-mul) (omega arith)

pub down-mul : (a b : ℤ) → down (a *ℤ b) ≡ up a * down b + down a * up b
down-mul (pos a) (pos b) = simp (mul-zero, zero-mul) (omega arith)
down-mul (pos a) (negsuc b) = down-neg (pos (a * suc b)) ∙ simp (mul-zero, zero-mul) (omega arith)
down-mul (negsuc a) (pos b) = down-neg (pos (suc a * b)) ∙ simp (mul-zero, zero-mul) (omega arith)
down-mul (negsuc a) (negsuc b) = simp (mul-zero, zero-mul) (omega arith)

-- two numbers are equal where their balance is
pub ext : (a b : ℤ) → up a + down b ≡ up b + down a → a ≡ b
ext (pos a) (pos b) e = ap pos (omega arith)
ext (pos a) (negsuc b) e = absurd (omega arith)
ext (negsuc a) (pos b) e = absurd (omega arith)
ext (negsuc a) (negsuc b) e = ap negsuc (omega arith)

pub abs_is : (a : ℤ) → nat_abs a ≡ up a + down a
abs_is (pos n) = omega arith
abs_is (negsuc n) = omega arith

pub le_from : (a b : ℤ) → up a + down b ≤ up b + down a → a ≤ℤ b
le_from (pos a) (pos b) h = record { le = le→leb a b (omega arith) }
le_from (pos a) (negsuc b) h = absurd (omega arith)
le_from (negsuc a) (pos b) h = record { le = tt }
le_from (negsuc a) (negsuc b) h = record { le = le→leb b a (omega arith) }

pub le_to : {a b : ℤ} → a ≤ℤ b → up a + down b ≤ up b + down a
le_to {a = pos a} {b = pos b} h = omega (arith, leb→le a b h.le)
le_to {a = pos a} {b = negsuc b} h = absurd h.le
le_to {a = negsuc a} {b = pos b} h = omega arith
le_to {a = negsuc a} {b = negsuc b} h = omega (arith, leb→le b a h.le)

-- ---- the ring laws

scaled : (m x y z x' y' z' : ℕ) → x + y + z ≡ x' + y' + z' → m * x + m * y + m * z ≡ m * x' + m * y' + m * z'
scaled m x y z x' y' z' e = sym (spread x y z) ∙ ap (λ (n : ℕ). m * n) e ∙ spread x' y' z'
  where
    spread : (x y z : ℕ) → m * (x + y + z) ≡ m * x + m * y + m * z
    spread x y z = simp mul-add refl

pub mul_addℤ : (a b c : ℤ) → a *ℤ (b +ℤ c) ≡ a *ℤ b +ℤ a *ℤ c
mul_addℤ a b c = ext (a *ℤ (b +ℤ c)) (a *ℤ b +ℤ a *ℤ c)
    (omega (
      arith,
      up-mul a (b +ℤ c),
      down-mul a (b +ℤ c),
      add_balance (a *ℤ b) (a *ℤ c),
      up-mul a b,
      down-mul a b,
      up-mul a c,
      down-mul a c,
      scaled (up a) (up (b +ℤ c)) (down b) (down c) (down (b +ℤ c)) (up b) (up c) (add_balance b c),
      scaled (down a) (up (b +ℤ c)) (down b) (down c) (down (b +ℤ c)) (up b) (up c) (add_balance b c),
    ))

pub mul_commℤ : (a b : ℤ) → a *ℤ b ≡ b *ℤ a
mul_commℤ a b = ext (a *ℤ b) (b *ℤ a) (simp (up-mul, down-mul, mul_comm) (omega arith))

pub mul_assocℤ : (a b c : ℤ) → a *ℤ b *ℤ c ≡ a *ℤ (b *ℤ c)
mul_assocℤ a b c = ext (a *ℤ b *ℤ c) (a *ℤ (b *ℤ c)) (simp (up-mul, down-mul, mul-add, add-mul, mul_assoc) (omega arith))

pub add_commℤ : (a b : ℤ) → a +ℤ b ≡ b +ℤ a
add_commℤ a b = ext (a +ℤ b) (b +ℤ a) (omega (arith, add_balance a b, add_balance b a))

pub add_assocℤ : (a b c : ℤ) → a +ℤ b +ℤ c ≡ a +ℤ (b +ℤ c)
add_assocℤ a b c = ext (a +ℤ b +ℤ c) (a +ℤ (b +ℤ c)) (omega (arith, add_balance (a +ℤ b) c, add_balance a b, add_balance a (b +ℤ c), add_balance b c))

pub add_left_commℤ : (a b c : ℤ) → a +ℤ (b +ℤ c) ≡ b +ℤ (a +ℤ c)
add_left_commℤ a b c = ext (a +ℤ (b +ℤ c)) (b +ℤ (a +ℤ c)) (omega (arith, add_balance a (b +ℤ c), add_balance b c, add_balance b (a +ℤ c), add_balance a c))

pub mul_left_commℤ : (a b c : ℤ) → a *ℤ (b *ℤ c) ≡ b *ℤ (a *ℤ c)
mul_left_commℤ a b c = sym (mul_assocℤ a b c) ∙ ap (λ (x : ℤ). x *ℤ c) (mul_commℤ a b) ∙ mul_assocℤ b a c

pub mul_right_commℤ : (a b c : ℤ) → a *ℤ b *ℤ c ≡ a *ℤ c *ℤ b
mul_right_commℤ a b c = mul_assocℤ a b c ∙ ap (λ (x : ℤ). a *ℤ x) (mul_commℤ b c) ∙ sym (mul_assocℤ a c b)

pub add_mulℤ : (a b c : ℤ) → (a +ℤ b) *ℤ c ≡ a *ℤ c +ℤ b *ℤ c
add_mulℤ a b c = mul_commℤ (a +ℤ b) c ∙ mul_addℤ c a b ∙ (λ i. mul_commℤ c a i +ℤ mul_commℤ c b i)

pub neg_mulℤ : (a b : ℤ) → neg_ℤ a *ℤ b ≡ neg_ℤ (a *ℤ b)
neg_mulℤ a b = ext (neg_ℤ a *ℤ b) (neg_ℤ (a *ℤ b)) (simp (up-mul, down-mul, up-neg, down-neg, up-mul, down-mul) (omega arith))

pub mul_negℤ : (a b : ℤ) → a *ℤ neg_ℤ b ≡ neg_ℤ (a *ℤ b)
mul_negℤ a b = mul_commℤ a (neg_ℤ b) ∙ neg_mulℤ b a ∙ ap neg_ℤ (mul_commℤ b a)
