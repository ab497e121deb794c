-- `chunks::bytes::copy_bytes` meets its contract: after j turns j bytes are laid. Assumes nothing.
use Rattle.chunks.proofs.Laid.{laying_start, laying_more, laying_all}
use Rattle.chunks.proofs.bytes.copy_bytes.Goals as goal

pub loop-j-init : goal.loop-j-init
loop-j-init c = laying_start _ _ _

pub loop-j-preserved : goal.loop-j-preserved
loop-j-preserved c = laying_more c.loop-j.invariant c.loop-j-test.true

pub returns : goal.returns
returns c = laying_all c.loop-j.invariant c.loop-j-test.false
