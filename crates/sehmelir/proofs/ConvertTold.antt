-- The promise of a conversion allows one outcome. Assumes nothing.
use mathlib.Core.Path.{sym, ◌∙◌}
use Rattle.sehmelir.specs.ConvertBoundary.{OneConvertReply}
use Rattle.sehmelir.proofs.OneReply.{one_reply}

pub one_convert_reply : OneConvertReply
one_convert_reply s g r q o p a b = (one_reply _ _ r q a.replies b.replies, a.store ∙ sym b.store)
