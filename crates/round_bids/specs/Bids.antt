-- The bids that a list of words holds, and their bid values: rules 7.1 and 7.5.
use Rattle.std.specs.Prelude.{cond, List, [], ◌∷◌, ℕ, zero, suc, ◌+◌, ◌*◌, leb, length, get_or}
use Rattle.market.specs.Books.{cents, megawatts}
use Rattle.market.specs.Limits.{lamination_limit, price_limit, quantity_limit, header_words, pair_words}
use Rattle.round_bids.specs.declared.Header.{Header}
use Rattle.round_bids.specs.declared.Lamination.{Lamination}

-- rule 7.1: a bid; its pairs are its laminations
pub record Bid : Type 0 where
  pub bidder : ℕ
  pub path : ℕ
  pub stamp : ℕ
  pub laminations : List Lamination

-- rule 7.1: the four words before the pairs, of which n is the number of pairs
abbrev pub header_of : Bid → Header
header_of b =
    record { bidder = b.bidder; path = b.path; stamp = b.stamp; count = length b.laminations }

-- rules 1.4 and 7.5: the bid value of a pair, of pairs, and of a bid; no number of days is in it
abbrev pub lamination_value : Lamination → ℕ
lamination_value l = l.price.0 * l.quantity.0

abbrev pub laminations_value : List Lamination → ℕ
laminations_value [] = 0
laminations_value (l ∷ ls) = lamination_value l + laminations_value ls

abbrev pub bid_value : Bid → ℕ
bid_value b = laminations_value b.laminations

-- the most that the bid value of a pair can be, and of a bid, by the ranges of rule 7.2
abbrev pub lamination_value_limit : ℕ
lamination_value_limit = price_limit * quantity_limit

abbrev pub bid_value_limit : ℕ
bid_value_limit = lamination_limit * lamination_value_limit

-- the word at a place (an index from 0), and 0 past the end of the list
abbrev pub word_at : List ℕ → ℕ → ℕ
word_at words i = get_or words i 0

-- rule 7.1: the four words at a place, as the header of a bid
abbrev pub header_at : List ℕ → ℕ → Header
header_at words at =
    record {
      bidder = word_at words at;
      path = word_at words (at + 1);
      stamp = word_at words (at + 2);
      count = word_at words (at + 3);
    }

-- rules 7.1 and 7.2: the pair at a place: a price, and MW that are for this pair alone
abbrev pub lamination_at : List ℕ → ℕ → Lamination
lamination_at words at =
    record { price = cents (word_at words at); quantity = megawatts (word_at words (at + 1)) }

-- rule 7.1: as many pairs as the header says, one after another
abbrev pub laminations_at : List ℕ → ℕ → ℕ → List Lamination
laminations_at words at zero = []
laminations_at words at (suc n) = lamination_at words at ∷ laminations_at words (at + pair_words) n

-- rule 7.1: where the pairs of the bid at a place begin, and where the next bid begins
abbrev pub pairs_from : ℕ → ℕ
pairs_from at = at + header_words

abbrev pub bid_end : List ℕ → ℕ → ℕ
bid_end words at = pairs_from at + (header_at words at).count * pair_words

-- rule 7.1: the bid at a place
abbrev pub bid_at : List ℕ → ℕ → Bid
bid_at words at =
    record {
      bidder = (header_at words at).bidder;
      path = (header_at words at).path;
      stamp = (header_at words at).stamp;
      laminations = laminations_at words (pairs_from at) (header_at words at).count;
    }

-- rule 7.1: the bids from a place on, no more of them than the first argument: each begins where the one before it ends
abbrev pub bids_from : ℕ → List ℕ → ℕ → List Bid
bids_from zero words at = []
bids_from (suc more) words at =
    cond (leb (length words) at) [] (bid_at words at ∷ bids_from more words (bid_end words at))

-- rule 7.1: the bids of a list of words, of which it may have none; it has no more bids than words
abbrev pub bids_of : List ℕ → List Bid
bids_of words = bids_from (length words) words 0
