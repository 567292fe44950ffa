-- The money of payouts, disbursements and recoveries, read from the list that the reply hands back: rule 12.10.
use Rattle.std.specs.Prelude.{ℕ, take}
use Rattle.market.specs.Limits.{bidder_limit}
use Rattle.pool_sharing.specs.Sharing.{total}
use Rattle.call_rules.specs.Money.{if_answered}
use Rattle.call_rules.specs.Rule.{Reply}

-- rule 12.10: the sum of the 32 amounts or shares, which a refused call does not move
abbrev pub listed : Reply → ℕ
listed reply = if_answered (total (take bidder_limit reply.lists.amounts)) reply
