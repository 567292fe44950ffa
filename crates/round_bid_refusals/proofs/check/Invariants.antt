-- The invariant (`TestedBids`): the refusals of the bids from `at` on decide the whole list, `stamp` is the latest
-- stamp, and `seen` marks exactly the pairs of bidder and path that have a bid. A fault at `at` gives 14, 15 or 16 by
-- its law; a sound bid moves the invariant to its end (`bid-tested`).
use Prim.Native.Nat.{◌-◌}
use lib.ListN.{length}
use Rattle.round_bids.proofs.ReadLaws.{TestedBids}
use Rattle.round_bid_refusals.proofs.check.Given as goal

abbrev pub invariant-loop-at : goal.invariant-loop-at
invariant-loop-at l = TestedBids l.paths l.words l.at l.stamp l.seen

abbrev pub decreases-loop-at : goal.decreases-loop-at
decreases-loop-at l = length l.words - l.at
