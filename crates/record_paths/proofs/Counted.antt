-- What grade and count decide, one law for each outcome of their tests. Assumes nothing.
use Rattle.std.specs.Prelude.{Result, Ok, Err}
use mathlib.Core.Path.{◌≡◌, sym}
use mathlib.Core.List.{List}
use Prim.Native.Nat.{ℕ, ◌*◌, ◌/◌, ◌%◌, ◌≤◌, ◌<◌}
use native.Mathlib.Omega.{arith}
use lib.IntN.{ℤ}
use lib.ListN.{length}
use borrow.Author.Tests.{lt-ltb, le-ltb}
use Rattle.replies.specs.Replies.{first_row, draw_grade_row, count_row}
use Rattle.replies.specs.Checks.{PathSays}
use Rattle.replies.specs.declared.Refusal.{Refusal}
use Rattle.replies.specs.declared.Refusal.TheVariants.{TooMany, Grade}
use Rattle.replies.proofs.PathChecks.{grade_low, grade_high, too_many}
use Rattle.record_paths.specs.RecordPaths.{wanted_of, CountSays}

-- a pass is no refusal, and has one count
refused_not : {r : Refusal} {n : ℕ} → ◌≡◌ {A = Result ℕ Refusal} (Err r) (Ok n) → ⊥
refused_not e = cc

one_count : {m n : ℕ} → ◌≡◌ {A = Result ℕ Refusal} (Ok m) (Ok n) → m ≡ n
one_count e = cc

-- three numbers a record
thirds : (path : List ℤ) {n : ℕ} → length path ≡ 3 * n → (length path % 3 ≡ 0) × (length path / 3 ≡ n)
thirds path e = (omega (arith, e), omega (arith, e))

module _ (n g : ℕ) where
  refuses : (why : Refusal) → ((path : List ℤ) → length path ≡ 3 * n → PathSays path g (Err why)) → wanted_of n g ≡ 0 → CountSays n g (Err why)
  refuses why h w = record {
    refused = λ path other long _. h path long;
    wanted = λ other _. w;
    passed = λ m e. absurd (refused_not e);
  }

  pub low_grade : g < 2 → CountSays n g (Err (Grade g))
  unfolding wanted_of first_row draw_grade_row
  low_grade h = refuses (Grade g) (λ path e. grade_low path g (thirds path e).0 h) (rw (lt-ltb g 2 h, first_row))

  pub high_grade : 2 ≤ g → 8 < g → CountSays n g (Err (Grade g))
  unfolding wanted_of first_row draw_grade_row
  high_grade low h = refuses (Grade g) (λ path e. grade_high path g (thirds path e).0 low h) (rw (le-ltb g 2 low, lt-ltb 8 g h, first_row))

  pub many : 2 ≤ g → g ≤ 8 → 4096 < n → CountSays n g (Err (TooMany n))
  unfolding wanted_of first_row draw_grade_row count_row
  many low high h =
      refuses (TooMany n)
      (λ path e.
      let k = (thirds path e).1 in
      let s : PathSays path g (Err (TooMany (length path / 3))) = too_many path g (thirds path e).0 low high (omega (arith, k, h)) in
      rw k at s)
      (rw (le-ltb g 2 low, le-ltb 8 g high, first_row, lt-ltb 4096 n h, first_row))

  pub few : 2 ≤ g → g ≤ 8 → n ≤ 4096 → CountSays n g (Ok n)
  unfolding wanted_of first_row draw_grade_row count_row
  few low high h = record {
    refused = λ path why long e. absurd (refused_not (sym e));
    wanted = λ why e. absurd (refused_not (sym e));
    passed = λ m e. (one_count (sym e), rw (le-ltb g 2 low, le-ltb 8 g high, first_row, le-ltb 4096 n h, first_row), h);
  }
