-- What draw and keep reply of a path that is gathered: what grade and count refuse, or the call over its numbers. Assumes nothing.
use Rattle.std.specs.Prelude.{Result, Ok, Err}
use mathlib.Core.Path.{◌≡◌}
use mathlib.Core.List.{List}
use Prim.Native.Nat.{ℕ, ◌-◌, ◌*◌}
use native.Mathlib.Omega.{arith}
use lib.IntN.{ℤ}
use lib.ListN.{take, drop}
use Rattle.words.specs.Words.{words_of}
use Rattle.replies.specs.Checks.{PathSays}
use Rattle.replies.specs.Refusals.{refusal_of, reply_of}
use Rattle.replies.specs.declared.Refusal.{Refusal}
use Rattle.drawing.proofs.DrawAnswers.{draws_refused}
use Rattle.keeping.specs.Keeping.{Keeps}
use Rattle.keeping.proofs.KeepAnswers.{keeps_refused}
use Rattle.record_paths.specs.RecordPaths.{CountSays}
use Rattle.record_paths.proofs.WantedRecords.{gathered_is, gathered_posts}
use Rattle.sehmelir.specs.Boundary.{Replies, DrawReplies}
use Rattle.sehmelir.specs.RecordBoundary.{DrawGatheredReplies, KeepGatheredReplies}
use Rattle.sehmelir.specs.declared.Reply.{Reply}
use Rattle.sehmelir.proofs.Told.{told_as}

-- the part of the own numbers that a call is over goes from 0 to k
module _ (numbers : List ℤ) {n g : ℕ} {c : Result ℕ Refusal} (s : CountSays n g c) where
  pub draw_refused : (out : List ℤ) {why : Refusal} {p : Reply} → c ≡ Err why → Replies p (refusal_of why) 0 → DrawGatheredReplies numbers n g out p out
  draw_refused out {why} e h = record {
    replies = λ path posts given.
        let says : PathSays path g c = s.refused path why given.long e in
        let d = draws_refused path out (rw e at says) in
        record { replies = told_as d.reply h; out = d.out };
  }

  pub draw_passed : {out out₁ : List ℤ} {m k : ℕ} {p : Reply} → c ≡ Ok m → k ≡ 3 * m → DrawReplies (take k numbers) g out p out₁ → DrawGatheredReplies numbers n g out p out₁
  draw_passed {m = m} {k = k} e f d = record { replies = λ path posts given. rw (f, gathered_is numbers path posts s e given) at d }

  pub keep_refused : (out : List ℕ) {why : Refusal} {p : Reply} → c ≡ Err why → Replies p (refusal_of why) 0 → KeepGatheredReplies numbers n g out p out
  keep_refused out {why} e h = record {
    replies = λ path posts given.
        let says : PathSays path g c = s.refused path why given.long e in
        let d = keeps_refused path posts out (rw e at says) in
        record { replies = told_as d.reply h; out = d.out };
  }

  pub keep_passed : {out out₁ : List ℕ} {m : ℕ} {r : Result ℕ Refusal} {p : Reply} → c ≡ Ok m → Keeps (take (3 * m) numbers) (words_of (take m (drop (3 * m) numbers))) g out r out₁ → Replies p (reply_of r) 0
      → KeepGatheredReplies numbers n g out p out₁
  keep_passed {out} {out₁} {r = r} e d h = record {
    replies = λ path posts given.
        let k : Keeps path posts g out r out₁ = rw (gathered_is numbers path posts s e given, gathered_posts numbers path posts s e given) at d in
        record { replies = told_as k.reply h; out = k.out };
  }
