-- Which bids a round takes, and the refusals of the others: rules 7.2 to 7.4, rules 13.14 to 13.16 and rule 13.102.
use Rattle.std.specs.Prelude.{◌≡◌, Bool, true, false, cond, not, ◌&&◌, ◌||◌, List, [], ◌∷◌, ◌++◌, ℕ, zero, suc, ◌+◌, ◌≤◌, leb, ltb, eqb, length}
use Rattle.market.specs.Answers.{Row, ◌gives◌}
use Rattle.market.specs.Limits.{path_limit, bidder_limit, lamination_limit, price_limit, quantity_limit, bid_list_words}
use Rattle.market.specs.declared.answer.Refusal.{Refusal}
use Rattle.round_bids.specs.Bids.{Bid, header_of, bid_at, bid_end}
use Rattle.round_bids.specs.declared.Header.{Header}
use Rattle.round_bids.specs.declared.Lamination.{Lamination}

-- rule 7.2: the price and the MW of a pair are in their ranges
abbrev pub sound_lamination : Lamination → Bool
sound_lamination l =
    leb 1 l.price.0 && leb l.price.0 price_limit && leb 1 l.quantity.0 && leb l.quantity.0 quantity_limit

-- rule 7.2: so is every pair, and each price is below the one before it
abbrev pub sound_laminations : ℕ → List Lamination → Bool
sound_laminations before [] = true
sound_laminations before (l ∷ ls) =
    (sound_lamination l && ltb l.price.0 before) && sound_laminations l.price.0 ls

-- there is no price before the first one: this number, above every price, is used instead
abbrev pub above_prices : ℕ
above_prices = price_limit + 1

-- rule 7.2: bidder, path and n are in their ranges, where the book has `paths` paths; a stamp may be any word
abbrev pub sound_header : ℕ → Header → Bool
sound_header paths h =
    ltb h.bidder bidder_limit && ltb h.path paths && leb 1 h.count && leb h.count lamination_limit

-- rule 7.2: all fields of a bid are in their ranges
abbrev pub sound_bid : ℕ → Bid → Bool
sound_bid paths b = sound_header paths (header_of b) && sound_laminations above_prices b.laminations

-- rule 7.1: the list does not end inside the bid at a place
abbrev pub whole_at : List ℕ → ℕ → Bool
whole_at words at = leb (bid_end words at) (length words)

-- rule 7.4: whether one of these bids has this bidder and this path
abbrev pub has_bid : ℕ → ℕ → List Bid → Bool
has_bid bidder path [] = false
has_bid bidder path (b ∷ bs) = (eqb b.bidder bidder && eqb b.path path) || has_bid bidder path bs

-- rule 7.3: the stamp of the latest of these bids (latest first); 0 before the first bid, which may have any
abbrev pub stamp_of : List Bid → ℕ
stamp_of [] = 0
stamp_of (b ∷ bs) = b.stamp

-- rules 13.14, 13.15, 13.16 and 13.102: the rows of the bid at a place, in their order; `earlier` has the bids before it, latest first
abbrev pub bid_refusals : ℕ → List ℕ → ℕ → List Bid → List Row
bid_refusals paths words at earlier =
    (not (whole_at words at && sound_bid paths (bid_at words at)) gives Refusal.Bid)
    ∷ (has_bid (bid_at words at).bidder (bid_at words at).path earlier gives Refusal.SecondBid)
    ∷ (ltb (bid_at words at).stamp (stamp_of earlier) gives Refusal.Stamp)
    ∷ []

-- rule 13.102: the rows of the bids from a place on, bid after bid, so that the first one with a fault decides; for no more bids than the first
-- argument
abbrev pub refusals_from : ℕ → ℕ → List ℕ → ℕ → List Bid → List Row
refusals_from zero paths words at earlier = []
refusals_from (suc more) paths words at earlier =
    cond (leb (length words) at) []
    (bid_refusals paths words at earlier ++ refusals_from more paths words (bid_end words at) (bid_at words at ∷ earlier))

-- rule 13.102: the rows of a list of bids; it has no more bids than words
abbrev pub list_refusals : ℕ → List ℕ → List Row
list_refusals paths words = refusals_from (length words) paths words 0 []

-- the bid at a place is whole and sound
abbrev pub sound_bid_at : ℕ → List ℕ → ℕ → Bool
sound_bid_at paths words at = whole_at words at && sound_bid paths (bid_at words at)

-- whether each bid from a place on is whole and sound, for no more bids than the second argument
abbrev pub sound_from : ℕ → ℕ → List ℕ → ℕ → Bool
sound_from paths zero words at = true
sound_from paths (suc more) words at =
    cond (leb (length words) at) true (sound_bid_at paths words at && sound_from paths more words (bid_end words at))

-- every bid of a list is whole and sound, for a book of `paths` paths
abbrev pub sound_list : ℕ → List ℕ → Bool
sound_list paths words = sound_from paths (length words) words 0

-- a list that a round works on: no longer than a list may be, and every bid of it whole and sound
pub record BidList (words : List ℕ) : Type 0 where
  pub short : length words ≤ bid_list_words
  pub sound : sound_list path_limit words ≡ true
