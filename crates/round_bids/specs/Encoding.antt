-- The words of a list of bids, rule 7.1, and which lists of bids a round takes, rules 7.2 to 7.4.
use Rattle.std.specs.Prelude.{Bool, true, not, ◌&&◌, List, [], ◌∷◌, ◌++◌, ℕ, leb, length}
use Rattle.round_bids.specs.Bids.{Bid}
use Rattle.round_bids.specs.BidRefusals.{sound_bid, has_bid, stamp_of}
use Rattle.round_bids.specs.declared.Lamination.{Lamination}

-- rule 7.1: the words of pairs
abbrev pub pairs_encoded : List Lamination → List ℕ
pairs_encoded [] = []
pairs_encoded (l ∷ ls) = l.price.0 ∷ l.quantity.0 ∷ pairs_encoded ls

-- rule 7.1: the words of a bid, and of a list of bids
abbrev pub bid_encoded : Bid → List ℕ
bid_encoded b =
    b.bidder ∷ b.path ∷ b.stamp ∷ length b.laminations ∷ pairs_encoded b.laminations

abbrev pub encoded : List Bid → List ℕ
encoded [] = []
encoded (b ∷ bs) = bid_encoded b ++ encoded bs

-- rules 7.2 to 7.4: whether a round takes these bids after the `earlier` ones (latest first), and whether it takes them at all
abbrev pub right_after : ℕ → List Bid → List Bid → Bool
right_after paths earlier [] = true
right_after paths earlier (b ∷ bs) =
    sound_bid paths b
    && not (has_bid b.bidder b.path earlier)
    && leb (stamp_of earlier) b.stamp
    && right_after paths (b ∷ earlier) bs

abbrev pub right_bids : ℕ → List Bid → Bool
right_bids paths bids = right_after paths [] bids
