-- The winning bids of a round, and the entries that they add: rules 7.12 and 13.23. `won` has the MW of each bid by its number.
use Rattle.std.specs.Prelude.{cond, List, [], ◌∷◌, ◌++◌, ℕ, zero, suc, ◌+◌, ltb, get_or}
use Rattle.market.specs.Books.{megawatts}
use Rattle.market.specs.Limits.{pending}
use Rattle.market.specs.declared.book.Entry.{Entry}
use Rattle.market.specs.declared.book.Period.{Period}
use Rattle.round_bids.specs.Bids.{Bid}

-- rule 7.12: the entry of a bid: pending, with the MW that it won and the auction's period
abbrev pub entry_of : Period → ℕ → Bid → Entry
entry_of period won b =
    record { bidder = b.bidder; path = b.path; quantity = megawatts won; period = period; state = pending }

-- rule 7.12: only a bid that won 1 MW or more has one
abbrev pub if_won : Entry → List Entry
if_won e = cond (ltb 0 e.quantity.0) (e ∷ []) []

-- rule 7.12: the entries in the order of the list, those of bids from a number on, and those of all bids
abbrev pub entries_from : Period → List ℕ → ℕ → List Bid → List Entry
entries_from period won bid [] = []
entries_from period won bid (b ∷ bs) =
    if_won (entry_of period (get_or won bid 0) b) ++ entries_from period won (bid + 1) bs

abbrev pub new_entries : Period → List ℕ → List Bid → List Entry
new_entries period won bids = entries_from period won 0 bids

-- rules 7.12 and 13.23: how many of the first `n` bids are winning bids
abbrev pub winners_in : List ℕ → ℕ → ℕ
winners_in won zero = 0
winners_in won (suc n) = winners_in won n + cond (ltb 0 (get_or won n 0)) 1 0
