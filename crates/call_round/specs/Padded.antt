-- How a round's functions hand on a number for each bid.
use Rattle.std.specs.Prelude.{List, ◌++◌, ℕ, ◌-◌, replicate}
use Rattle.market.specs.Limits.{bid_limit}

-- a list with a number for each bid that a bid list can have: the numbers of its bids, and 0 past them
abbrev pub padded : List ℕ → ℕ → List ℕ
padded l count = l ++ replicate (bid_limit - count) 0
