-- Laws about prices and their signs.
use mathlib.Core.Path.{◌≡◌}
use mathlib.Core.Bool.{true}
use Prim.Native.Nat.{zero, suc, ◌-◌, ◌≤◌, zero-le}
use native.Mathlib.Omega.{arith}
use lib.Dec.{leb}
use lib.IntN.{ℤ, pos, negsuc, neg_ℤ}
use borrow.Author.Tests.{leb-true}
use Rattle.market.proofs.Tests.{left-true}
use Rattle.market.specs.Limits.{zone_price_limit}
use Rattle.call_payout_hour.specs.Hours.{above_zero, sound_zone_price}

-- for a sound price both parts are at most the limit of a price
pub above_within : (z : ℤ) → sound_zone_price z ≡ true → above_zero z ≤ zone_price_limit
above_within (pos a) h = leb-true a zone_price_limit h
above_within (negsuc a) h = zero-le

pub below-within : (z : ℤ) → sound_zone_price z ≡ true → above_zero (neg_ℤ z) ≤ zone_price_limit
below-within (pos zero) h = zero-le
below-within (pos (suc a)) h = zero-le
below-within (negsuc a) h =
    let within : a ≤ zone_price_limit - 1 = leb-true a (zone_price_limit - 1) (left-true (leb a (zone_price_limit - 1)) true h) in
    omega arith
