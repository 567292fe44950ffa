-- The two lists that a round fills, word by word: rules 7.17 and 7.18.
use Rattle.std.specs.Prelude.{List, ℕ, ◌+◌, ◌*◌, get_or}
use Rattle.market.specs.Limits.{bid_answer_size, path_answer_size}

-- rule 7.17: the four words of a bid, by its number from 0
abbrev pub mark_in : List ℕ → ℕ → ℕ
mark_in answers bid = get_or answers (bid * bid_answer_size) 0

abbrev pub value_in : List ℕ → ℕ → ℕ
value_in answers bid = get_or answers (bid * bid_answer_size + 1) 0

abbrev pub won_in : List ℕ → ℕ → ℕ
won_in answers bid = get_or answers (bid * bid_answer_size + 2) 0

abbrev pub charge_in : List ℕ → ℕ → ℕ
charge_in answers bid = get_or answers (bid * bid_answer_size + 3) 0

-- rule 7.18: the three words of a path, by its number from 0
abbrev pub offered_in : List ℕ → ℕ → ℕ
offered_in results path = get_or results (path * path_answer_size) 0

abbrev pub sold_in : List ℕ → ℕ → ℕ
sold_in results path = get_or results (path * path_answer_size + 1) 0

abbrev pub price_in : List ℕ → ℕ → ℕ
price_in results path = get_or results (path * path_answer_size + 2) 0
