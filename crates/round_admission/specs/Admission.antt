-- Bidding limits, and which bids are admitted: rules 7.6 and 7.7.
use Rattle.std.specs.Prelude.{Bool, cond, List, [], ◌∷◌, map, ℕ, ◌+◌, ◌*◌, ◌-◌, leb, get_or, replicate}
use Rattle.market.specs.Books.{credit}
use Rattle.market.specs.Limits.{bidder_limit, multipliers, bidding_limit_top, admitted, over}
use Rattle.market.specs.declared.book.Bidder.{Bidder}
use Rattle.market.specs.declared.book.Book.{Book}
use Rattle.round_bids.specs.Bids.{Bid, bid_value}

-- rule 7.6: the multiplier of a step
abbrev pub multiplier : ℕ → ℕ
multiplier step = get_or multipliers step 0

-- rule 7.6: a bidder's limit; the hold of a sound book is at most the letter
abbrev pub bidding_limit : Bidder → ℕ
bidding_limit x = multiplier x.step * (x.cash.0 + x.letter.0 - x.hold.0)

-- rule 7.6: the limits of all bidders, from their numbers before the round
abbrev pub bidding_limits : Book → List ℕ
bidding_limits b = map bidding_limit b.bidders

-- a limit that a sound book can give
abbrev pub within_top : ℕ → Bool
within_top limit = leb limit bidding_limit_top

-- rule 7.7: the bid's value does not pass the limit together with what the bidder has admitted; `used` has the values admitted so far, by bidder
abbrev pub admits : List ℕ → List ℕ → Bid → Bool
admits limits used b = leb (get_or used b.bidder 0 + bid_value b) (get_or limits b.bidder 0)

-- rules 7.7 and 7.17: the mark of a bid
abbrev pub mark_of : List ℕ → List ℕ → Bid → ℕ
mark_of limits used b = cond (admits limits used b) admitted over

-- rule 7.7: the values admitted after a bid: an admitted one uses its whole bid value, and one that is over uses nothing
abbrev pub used_after : List ℕ → List ℕ → Bid → List ℕ
used_after limits used b = cond (admits limits used b) (credit used b.bidder (bid_value b)) used

-- rule 7.7: bids are taken up from the front of the list
abbrev pub marks_from : List ℕ → List ℕ → List Bid → List ℕ
marks_from limits used [] = []
marks_from limits used (b ∷ bs) = mark_of limits used b ∷ marks_from limits (used_after limits used b) bs

-- rule 7.7: the marks of a round's bids
abbrev pub marks_of : List ℕ → List Bid → List ℕ
marks_of limits bids = marks_from limits (replicate bidder_limit 0) bids
