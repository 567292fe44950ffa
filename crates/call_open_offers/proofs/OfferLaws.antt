-- Laws about offers: an offer is within the financial upper limit, a round offers no more than the offer, and the last round of L
-- offers at least three times what the first did.
use mathlib.Core.Bool.{Bool, true, false, cond}
use Prim.Native.Nat.{ℕ, ◌*◌, ◌-◌, ◌/◌, ◌≤◌, min}
use native.Mathlib.Omega.{arith}
use native.Mathlib.Nat.{le_trans, sub-le, min-le_left}
use lib.Dec.{eqb}
use Rattle.market.specs.Limits.{quarters, quantity_limit}
use Rattle.market.specs.declared.book.Kind.{Kind}
use Rattle.market.specs.declared.book.Kind.TheVariants.{Short, Long}
use Rattle.market.specs.declared.book.Path.{Path}
use Rattle.call_open_offers.specs.Offers.{capability, auction_offer, round_offer}
use Rattle.call_open_offers.specs.declared.Quantities.{Quantities}

capability-within : (q : Quantities) → capability q ≤ q.upper.0
capability-within q = min-le_left q.upper.0 (min q.first.0 q.second.0)

middle : (a b c d : ℕ) → b ≤ d → min a (min b c) ≤ d
middle a b c d h = omega arith

-- an offer is at most the financial upper limit
pub offer-within : (kind : Kind) (q : Quantities) (out : ℕ) → auction_offer kind q out ≤ q.upper.0
offer-within Short q out = le_trans (sub-le (capability q) out) (capability-within q)
offer-within Long q out =
    middle (q.base.0 / quarters) (capability q) (min (q.base.0 - out) (q.upper.0 - out)) q.upper.0
    (capability-within q)

-- so it is a quantity that a sound path may have
pub offer-limit : (kind : Kind) (q : Quantities) (out : ℕ) → q.upper.0 ≤ quantity_limit → auction_offer kind q out ≤ quantity_limit
offer-limit kind q out h = omega (arith, offer-within kind q out)

-- a round offers no more than the offer
pub offered-within : (kind : Kind) (round : ℕ) (p : Path) → round_offer kind round p ≤ p.offer.0
offered-within Short round p = omega arith
offered-within Long round p = go (eqb round 1)
  where
    go : (first : Bool) → cond first (p.offer.0 / quarters) (p.offer.0 - p.sold.0) ≤ p.offer.0
    go true = omega arith
    go false = omega arith

-- if the first round of L sold no more than it offered, the last round offers at least three times what the first did
pub last-round : (p : Path) → p.sold.0 ≤ round_offer Long 1 p → 3 * round_offer Long 1 p ≤ round_offer Long 2 p
last-round p h = omega arith
