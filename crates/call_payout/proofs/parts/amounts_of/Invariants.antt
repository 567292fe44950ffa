-- The invariant: the amounts are what the first `i` entries earn by the rates, credited to their bidders, and the total
-- is their sum, at most what `i` entries can earn, so all sums fit (sum_fits). At the end the amounts are the rule's,
-- since each rate is the rule's (credits-same).
use mathlib.Core.Path.{◌≡◌}
use Prim.Native.Nat.{◌*◌, ◌≤◌}
use lib.ListN.{length, replicate}
use Rattle.market.specs.Books.{in_cents}
use Rattle.market.specs.Limits.{bidder_limit, quantity_limit, zone_price_limit}
use Rattle.register.specs.Words.{entries_of}
use Rattle.pool_sharing.specs.Sharing.{total}
use Rattle.call_payout.proofs.RateLaws.{earned_by}
use Rattle.call_payout.specs.Payout.{credited}
use Rattle.call_payout.proofs.parts.amounts_of.Given as goal

abbrev pub invariant-loop-i : goal.invariant-loop-i
invariant-loop-i l = record {
  long : length l.amounts ≡ bidder_limit;
  amounts : in_cents l.amounts ≡ credited (earned_by l.day (in_cents l.rates)) (replicate bidder_limit 0) (entries_of l.words l.i);
  sum : l.total ≡ total (in_cents l.amounts);
  most : l.total ≤ l.i * (quantity_limit * zone_price_limit);
}
