-- The words of a round on the award sheet, as their bytes (rules 14.9 and 14.10).
use Rattle.std.specs.Prelude.{List, [], ◌∷◌, ℕ}

-- rule 14.9: `awards`
abbrev pub awards_word : List ℕ
awards_word = 97 ∷ 119 ∷ 97 ∷ 114 ∷ 100 ∷ 115 ∷ []

-- rules 14.9 and 14.10: `admitted` and `over`
abbrev pub admitted_word : List ℕ
admitted_word = 97 ∷ 100 ∷ 109 ∷ 105 ∷ 116 ∷ 116 ∷ 101 ∷ 100 ∷ []

abbrev pub over_word : List ℕ
over_word = 111 ∷ 118 ∷ 101 ∷ 114 ∷ []

-- rule 14.10: `-`, where a path has no clearing price
abbrev pub no_price_mark : List ℕ
no_price_mark = 45 ∷ []
