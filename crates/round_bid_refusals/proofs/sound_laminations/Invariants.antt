-- The invariant (`TestedTo`): the test of all pairs equals the test of the pairs from `i` on, with `before` as the
-- price before them. A pair that passes goes over to the tested ones (`tested-next`); one that fails makes the whole
-- test false (`tested-fails`).
use Prim.Native.Nat.{◌≤◌}
use Rattle.round_bids.proofs.BidLaws.{TestedTo}
use Rattle.round_bid_refusals.proofs.sound_laminations.Given as goal

abbrev pub invariant-loop-i : goal.invariant-loop-i
invariant-loop-i l = (l.i ≤ l.count) × TestedTo l.words l.at l.count l.i l.before
