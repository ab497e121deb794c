-- Two runs of words in one room, each going on by itself where they do not meet. Assumes nothing.
use mathlib.Core.Path.{◌≡◌, ap, ◌∙◌}
use mathlib.Core.List.{List, ◌++◌}
use Prim.Native.Nat.{ℕ, ◌+◌, ◌≤◌}
use native.Mathlib.Omega.{arith}
use lib.ListN.{length, length-append}
use Rattle.runs.specs.Runs.{spread, over, Runs, Room, put}
use Rattle.runs.proofs.Laws.{spread-append, runs_all, runs_to, runs_then}
use Rattle.runs.proofs.Written.{over_comm, written-length}
use Rattle.words.specs.Words.{four_bytes}
use Rattle.keeping.specs.Fills.{Apart, Both}

-- how long words after words are
pub longer : (xs ys : List ℕ) → length (spread four_bytes (xs ++ ys)) ≡ length (spread four_bytes xs) + length (spread four_bytes ys)
longer xs ys = ap length (spread-append four_bytes xs ys) ∙ length-append (spread four_bytes xs) (spread four_bytes ys)

-- ---- room for both

pub apart_as : {t b : ℕ} {xs zs ys ws : List ℕ} → xs ≡ zs → ys ≡ ws → Apart t xs b ys → Apart t zs b ws
apart_as p q h = rw (p, q) at h

pub apart-first : {t b : ℕ} {xs ys : List ℕ} (zs ws : List ℕ) → Apart t (xs ++ zs) b (ys ++ ws) → Apart t xs b ys
apart-first {xs = xs} {ys = ys} zs ws h = record { apart = omega (arith, h.apart, longer xs zs); fits = omega (arith, h.fits, longer ys ws) }

apart_then : {t t₁ b b₁ : ℕ} (xs ys : List ℕ) {zs ws : List ℕ} → t₁ ≡ t + length (spread four_bytes xs) → b₁ ≡ b + length (spread four_bytes ys) → Apart t (xs ++ zs) b (ys ++ ws) → Apart t₁ zs b₁ ws
apart_then xs ys {zs} {ws} e f h = record { apart = omega (arith, h.apart, longer xs zs); fits = omega (arith, h.fits, longer ys ws) }

module _ {t b : ℕ} {xs ys : List ℕ} (h : Apart t xs b ys) where
  pub table_room : Room four_bytes t xs
  table_room = record { fits = omega (arith, h.apart, h.fits) }

  pub body_room : Room four_bytes b ys
  body_room = record { fits = h.fits }

-- ---- both written

pub both_as : {l l' : List ℕ} {t b e : ℕ} {xs zs ys ws : List ℕ} → zs ≡ xs → ws ≡ ys → Both l t xs b ys l' e → Both l t zs b ws l' e
both_as p q r = rw (p, q) r

-- one and then the other
pub both_of : {l m l' : List ℕ} {t t₁ b e : ℕ} {xs ys : List ℕ} → Runs put four_bytes l t xs m t₁ → Runs put four_bytes m b ys l' e → Both l t xs b ys l' e
both_of {b = b} {ys = ys} p q = record { out = q.out ∙ ap (λ x. over put x b (spread four_bytes ys)) p.out; pos = q.pos }

pub both_first : {l m l' : List ℕ} {t t₁ b e : ℕ} {xs zs ys : List ℕ} → Runs put four_bytes l t xs m t₁ → Both m t₁ zs b ys l' e → Both l t (xs ++ zs) b ys l' e
both_first {m = m} {t₁ = t₁} {b = b} {zs = zs} {ys = ys} p q =
    let r = runs_then p (runs_all m t₁ zs) in
    record { out = q.out ∙ ap (λ x. over put x b (spread four_bytes ys)) r.out; pos = q.pos }

-- the second starts where the first ends: they are one
pub both_one : {l l' : List ℕ} {t b e : ℕ} {xs ys : List ℕ} → b ≡ t + length (spread four_bytes xs) → Both l t xs b ys l' e → Runs put four_bytes l t (xs ++ ys) l' e
both_one {l} {t = t} {xs = xs} h p = runs_then (runs_to h (runs_all l t xs)) (record { out = p.out; pos = p.pos })

pub both_length : {l l' : List ℕ} {t b e : ℕ} {xs ys : List ℕ} → Both l t xs b ys l' e → length l' ≡ length l
both_length {l} {t = t} {b} {xs = xs} {ys} p =
    let m = over put l t (spread four_bytes xs) in
    ap length p.out ∙ written-length (runs_all {f = put} {g = four_bytes} m b ys) ∙ written-length (runs_all {f = put} {g = four_bytes} l t xs)

-- each goes on
both_step : {l m l' : List ℕ} {t t₁ b b₁ e : ℕ} {xs zs ys ws : List ℕ} → t₁ ≡ t + length (spread four_bytes xs) → t₁ + length (spread four_bytes zs) ≤ b
    → Both l t xs b ys m b₁ → Both m t₁ zs b₁ ws l' e → Both l t (xs ++ zs) b (ys ++ ws) l' e
both_step {l} {m} {l'} {t} {t₁} {b} {b₁} {e} {xs} {zs} {ys} {ws} et h p q =
    let a = over put l t (spread four_bytes xs) in
    let d = over put a t₁ (spread four_bytes zs) in
    let table = runs_then (runs_to et (runs_all l t xs)) (runs_all {f = put} {g = four_bytes} a t₁ zs) in
    let bodies = runs_then (runs_to p.pos (runs_all d b ys)) (runs_all {f = put} {g = four_bytes} (over put d b (spread four_bytes ys)) b₁ ws) in
    record {
      out = q.out
          ∙ ap (λ x. over put (over put x t₁ (spread four_bytes zs)) b₁ (spread four_bytes ws)) p.out
          ∙ ap (λ x. over put x b₁ (spread four_bytes ws)) (over_comm a t₁ (spread four_bytes zs) b (spread four_bytes ys) h)
          ∙ bodies.out
          ∙ ap (λ x. over put x b (spread four_bytes (ys ++ ws))) table.out;
      pos = omega (arith, p.pos, q.pos, longer ys ws);
    }

-- ---- where filling has come to: whoever writes what is left of both has written both from the start

pub record Filled (l₀ : List ℕ) (t₀ : ℕ) (xs₀ : List ℕ) (b₀ : ℕ) (ys₀ : List ℕ) (l : List ℕ) (t : ℕ) (xs : List ℕ) (b : ℕ) (ys : List ℕ) : Type 0 where
  pub on : (l' : List ℕ) (e : ℕ) → Both l t xs b ys l' e → Both l₀ t₀ xs₀ b₀ ys₀ l' e
  pub left : Apart t xs b ys

pub filled_start : {l : List ℕ} {t b : ℕ} {xs ys : List ℕ} → Apart t xs b ys → Filled l t xs b ys l t xs b ys
filled_start h = record { on = λ l' e p. p; left = h }

pub filled_as : {l₀ l : List ℕ} {t₀ t b₀ b : ℕ} {xs₀ ys₀ xs zs ys ws : List ℕ} → xs ≡ zs → ys ≡ ws → Filled l₀ t₀ xs₀ b₀ ys₀ l t xs b ys → Filled l₀ t₀ xs₀ b₀ ys₀ l t zs b ws
filled_as p q h = rw (p, q) at h

pub filled_step : {l₀ l l₁ : List ℕ} {t₀ t t₁ b₀ b b₁ : ℕ} {xs₀ ys₀ xs zs ys ws : List ℕ} → Filled l₀ t₀ xs₀ b₀ ys₀ l t (xs ++ zs) b (ys ++ ws)
    → t₁ ≡ t + length (spread four_bytes xs) → Both l t xs b ys l₁ b₁ → Filled l₀ t₀ xs₀ b₀ ys₀ l₁ t₁ zs b₁ ws
filled_step {t = t} {b = b} {xs = xs} {zs} {ys} {ws} h e p = record {
  on = λ l' m q. h.on l' m (both_step e (omega (arith, h.left.apart, longer xs zs)) p q);
  left = apart_then xs ys e p.pos h.left;
}

pub filled_done : {l₀ l l' : List ℕ} {t₀ t b₀ b e : ℕ} {xs₀ ys₀ xs ys : List ℕ} → Filled l₀ t₀ xs₀ b₀ ys₀ l t xs b ys → Both l t xs b ys l' e → Both l₀ t₀ xs₀ b₀ ys₀ l' e
filled_done {l' = l'} {e = e} h p = h.on l' e p
