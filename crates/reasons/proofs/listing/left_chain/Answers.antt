-- `reasons::listing::left_chain` meets its contract: started anew exactly where b is covered. Assumes nothing.
use Rattle.reasons.proofs.Whys.{chain_left_yes, chain_left_no}
use Rattle.reasons.proofs.listing.left_chain.Goals as goal

pub returns-then-covered : goal.returns-then-covered
returns-then-covered c = chain_left_yes c.args.w c.args.b c.covered.ensures c.if-covered.true c.new.ensures

pub returns-else-covered : goal.returns-else-covered
returns-else-covered c = chain_left_no c.args.w c.args.b c.covered.ensures c.if-covered.false
