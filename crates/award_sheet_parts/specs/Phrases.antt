-- The words of the output, as their bytes (rules 14.7 to 14.9).
use Rattle.std.specs.Prelude.{List, [], ◌∷◌, ℕ}

-- rule 14.9: `TRA-AWARD`
abbrev pub award_title_word : List ℕ
award_title_word = 84 ∷ 82 ∷ 65 ∷ 45 ∷ 65 ∷ 87 ∷ 65 ∷ 82 ∷ 68 ∷ []

-- rule 14.9: `release`
abbrev pub release_word : List ℕ
release_word = 114 ∷ 101 ∷ 108 ∷ 101 ∷ 97 ∷ 115 ∷ 101 ∷ []

-- rule 14.9: `rules`
abbrev pub rules_word : List ℕ
rules_word = 114 ∷ 117 ∷ 108 ∷ 101 ∷ 115 ∷ []

-- rule 14.9: `rounds`
abbrev pub rounds_word : List ℕ
rounds_word = 114 ∷ 111 ∷ 117 ∷ 110 ∷ 100 ∷ 115 ∷ []

-- rules 14.7 and 14.8: `refused`
abbrev pub refused_word : List ℕ
refused_word = 114 ∷ 101 ∷ 102 ∷ 117 ∷ 115 ∷ 101 ∷ 100 ∷ []

-- rule 14.8: `line`
abbrev pub line_word : List ℕ
line_word = 108 ∷ 105 ∷ 110 ∷ 101 ∷ []
