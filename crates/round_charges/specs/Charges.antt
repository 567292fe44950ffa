-- What a round charges its bids, and its answers for them: rules 7.11, 7.13 and 7.17. `won` has the MW of each bid by its number, `prices` the
-- clearing price of each path, 0 where there is none, and `marks` the mark of each bid.
use Rattle.std.specs.Prelude.{Bool, List, [], ◌∷◌, ◌++◌, ℕ, ◌+◌, ◌*◌, leb, get_or, replicate}
use Rattle.market.specs.Books.{credit}
use Rattle.market.specs.Limits.{bidder_limit, price_limit, bid_limit}
use Rattle.round_bids.specs.Bids.{Bid, bid_value, lamination_value_limit}

-- rules 1.4 and 7.11: the charge of a bid
abbrev pub charge_at : List ℕ → List ℕ → ℕ → Bid → ℕ
charge_at won prices bid b = get_or prices b.path 0 * get_or won bid 0

-- a clearing price, or none: it is the price of a lamination, so within the range of rule 7.2
abbrev pub sound_clearing_price : ℕ → Bool
sound_clearing_price price = leb price price_limit

-- an amount that all bids of a list together can be charged: each won at most 9,999 MW
abbrev pub within_charges : ℕ → Bool
within_charges amount = leb amount (bid_limit * lamination_value_limit)

-- rule 7.13: all charges of the round by bidder: those of bids from a number on, added to amounts, and those of all bids
abbrev pub charged_from : List ℕ → List ℕ → List ℕ → ℕ → List Bid → List ℕ
charged_from won prices amounts bid [] = amounts
charged_from won prices amounts bid (b ∷ bs) =
    charged_from won prices (credit amounts b.bidder (charge_at won prices bid b)) (bid + 1) bs

abbrev pub charges_of : List ℕ → List ℕ → List Bid → List ℕ
charges_of won prices bids = charged_from won prices (replicate bidder_limit 0) 0 bids

-- rule 7.17: the four words of a bid
abbrev pub bid_row : List ℕ → List ℕ → List ℕ → ℕ → Bid → List ℕ
bid_row marks won prices bid b =
    get_or marks bid 0 ∷ bid_value b ∷ get_or won bid 0 ∷ charge_at won prices bid b ∷ []

-- rule 7.17: the words of bids from a number on, and of all bids, in their order
abbrev pub bid_rows_from : List ℕ → List ℕ → List ℕ → ℕ → List Bid → List ℕ
bid_rows_from marks won prices bid [] = []
bid_rows_from marks won prices bid (b ∷ bs) =
    bid_row marks won prices bid b ++ bid_rows_from marks won prices (bid + 1) bs

abbrev pub bid_rows : List ℕ → List ℕ → List ℕ → List Bid → List ℕ
bid_rows marks won prices bids = bid_rows_from marks won prices 0 bids
