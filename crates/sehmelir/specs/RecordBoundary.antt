-- Document 02, requests 4 and 11: draw and keep over vertex records as numbers. They promise what draw and keep promise of the records' numbers, three a record, in order,
-- and keep of their posts, one a record; here, what they promise of whatever path and posts stand gathered.
use Rattle.std.specs.Prelude.{List, ℕ, ℤ}
use Rattle.record_paths.specs.RecordPaths.{Gathered}
use Rattle.sehmelir.specs.Boundary.{DrawReplies, KeepReplies}
use Rattle.sehmelir.specs.declared.Reply.{Reply}

pub record DrawGatheredReplies (numbers : List ℤ) (n grade : ℕ) (out₀ : List ℤ) (p : Reply) (out₁ : List ℤ) : Type 0 where
  pub replies : (path : List ℤ) (posts : List ℕ) → Gathered numbers n grade path posts → DrawReplies path grade out₀ p out₁

pub record KeepGatheredReplies (numbers : List ℤ) (n grade : ℕ) (out₀ : List ℕ) (p : Reply) (out₁ : List ℕ) : Type 0 where
  pub replies : (path : List ℤ) (posts : List ℕ) → Gathered numbers n grade path posts → KeepReplies path posts grade out₀ p out₁
