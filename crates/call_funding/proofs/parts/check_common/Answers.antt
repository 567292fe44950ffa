use borrow.Author.Tests.{lt-ltb, le-ltb, eq-eqb, ne_eqb}
use Rattle.call_funding.proofs.parts.check_common.Goals as goal

pub returns-then-bidder-ge-BIDDERS : goal.returns-then-bidder-ge-BIDDERS
returns-then-bidder-ge-BIDDERS c = rw (le-ltb _ _ c.if-bidder-ge-BIDDERS.true)

pub returns-then-amount-eq0 : goal.returns-then-amount-eq0
returns-then-amount-eq0 c = rw (lt-ltb _ _ c.if-bidder-ge-BIDDERS.false, eq-eqb _ _ c.if-amount-eq0.true)

pub returns : goal.returns
returns c = rw (lt-ltb _ _ c.if-bidder-ge-BIDDERS.false, ne_eqb _ _ c.if-amount-eq0.false)
