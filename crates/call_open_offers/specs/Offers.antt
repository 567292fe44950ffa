-- What an auction offers of a path, and what each of its rounds does: rules 6.4, 6.5 and 6.7. A difference of natural numbers stops at 0, which
-- is the max(0, ..) of the rules: every other number under the min is at least 0.
use Rattle.std.specs.Prelude.{cond, ℕ, ◌-◌, ◌/◌, min, eqb}
use Rattle.market.specs.Limits.{quarters}
use Rattle.market.specs.declared.book.Kind.{Kind}
use Rattle.market.specs.declared.book.Kind.TheVariants.{Short, Long}
use Rattle.market.specs.declared.book.Path.{Path}
use Rattle.call_open_offers.specs.declared.Quantities.{Quantities}

-- the least of FUL, A and B
abbrev pub capability : Quantities → ℕ
capability q = min q.upper.0 (min q.first.0 q.second.0)

-- rule 6.4: the offer of an L auction
abbrev pub long_offer : Quantities → ℕ → ℕ
long_offer q out =
    min (q.base.0 / quarters) (min (capability q) (min (q.base.0 - out) (q.upper.0 - out)))

-- rule 6.5: the offer of an S auction
abbrev pub short_offer : Quantities → ℕ → ℕ
short_offer q out = capability q - out

-- rules 6.4 and 6.5: the offer, by the kind of the auction
abbrev pub auction_offer : Kind → Quantities → ℕ → ℕ
auction_offer Short q out = short_offer q out
auction_offer Long q out = long_offer q out

-- rule 6.7: what the first round of an L auction offers of a path, and what its second does
abbrev pub long_offered : ℕ → Path → ℕ
long_offered round p = cond (eqb round 1) (p.offer.0 / quarters) (p.offer.0 - p.sold.0)

-- rule 6.7: what a round offers of a path; that of an S auction offers all
abbrev pub round_offer : Kind → ℕ → Path → ℕ
round_offer Short round p = p.offer.0
round_offer Long round p = long_offered round p
