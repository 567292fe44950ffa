-- The invariant (`AddedTo`): the sum is at most `i` pair limits, the value of all pairs is the sum plus the value of
-- the pairs from `i` on, and those are sound. Each turn moves one pair from the rest to the sum (`one-added`); after
-- the last nothing is left (`all-added`).
use Prim.Native.Nat.{◌≤◌}
use Rattle.round_bids.proofs.ValueLaws.{AddedTo}
use Rattle.round_bids.proofs.pairs_value.Given as goal

abbrev pub invariant-loop-i : goal.invariant-loop-i
invariant-loop-i l = (l.i ≤ l.count) × AddedTo l.words l.at l.count l.i l.sum
