-- Numbers of a round's awards, one for each bid or path: rules 7.9 and 7.10.
use Rattle.std.specs.Prelude.{List, [], ◌∷◌, ◌++◌, ℕ, zero, suc}
use Rattle.market.specs.Limits.{path_limit, bid_limit}
use Rattle.round_award_rules.specs.Awards.{Award, won_by, sold_on, price_on}

-- the values of a function at the numbers below `n`
abbrev pub below : ℕ → (ℕ → ℕ) → List ℕ
below zero f = []
below (suc n) f = below n f ++ (f n ∷ [])

-- rule 7.9: the MW that each bid won; 0 past the last bid
abbrev pub won_table : List Award → List ℕ
won_table awards = below bid_limit (λ bid. won_by bid awards)

-- rules 7.10 and 7.15: the MW sold of each path, and its clearing price, 0 where there is none
abbrev pub sold_table : List Award → List ℕ
sold_table awards = below path_limit (λ path. sold_on path awards)

abbrev pub price_table : List Award → List ℕ
price_table awards = below path_limit (λ path. price_on path awards)
