-- `cases::stream::fill` meets its contract: what a turn reads stands behind what was filled before.
use Rattle.std.proofs.Common.{◌≡◌, ℕ, ◌+◌, ◌≤◌, List, ◌++◌, length, take, drop, rules, arith, sym, ap, ◌∙◌, subst, length-take-le}
use Rattle.std.proofs.Math.Seq.{take-append-add}
use Rattle.std.proofs.lemmas.List.{take-append-le, drop-append-le}
use Rattle.std.proofs.lemmas.Slice.{take-put_mid_below}
use Rattle.std.specs.Io.KnownBytes.{Consumes}
use Rattle.std.proofs.KnownBytes.{Consumes-trans}
use borrow.Rule.Slice.PartMut.{put_mid, post_of}
use Rattle.cases.proofs.stream.fill.Goals as goal

-- the front of a buffer, and n bytes that were read behind it
front_more : (at k n : ℕ) (old read : List ℕ) → at ≤ length old → n ≤ length read → take (at + n) (put_mid at k old read) ≡ take at old ++ take n read
front_more at k n old read within fits =
    let long : length (take at old) ≡ at = length-take-le at old within in
    let after = post_of at k old in
    ap (λ m. take (m + n) (put_mid at k old read)) (sym long) ∙ take-append-add (take at old) (read ++ after) n ∙ ap (λ l. take at old ++ l) (take-append-le n read after fits)

-- of these what stands behind the first `filled`
behind_more : (filled at k n : ℕ) (old read : List ℕ) → filled ≤ at → at ≤ length old → n ≤ length read
    → drop filled (take (at + n) (put_mid at k old read)) ≡ drop filled (take at old) ++ take n read
behind_more filled at k n old read kept within fits =
    let long : length (take at old) ≡ at = length-take-le at old within in
    ap (drop filled) (front_more at k n old read within fits) ∙ drop-append-le filled (take at old) (take n read) (omega (arith, long))

pub loop-count-preserved : goal.loop-count-preserved
loop-count-preserved g c =
    let l = c.loop-count in
    let i = l.invariant in
    let fits = c.in_ok-more.ensures.bound.0 in
    let more = behind_more c.args.filled l.count _ c.in_ok-more.more l.buffer c.read_some.new.buffer i.0 i.1 fits in
    (search rules, search rules, take-put_mid_below _ _ _ _ _ i.0 i.1 ∙ i.2, subst (Consumes _ _) (sym more) (Consumes-trans _ _ _ _ _ i.3 c.in_ok-more.ensures.read))
