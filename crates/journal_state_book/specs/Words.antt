-- The marks of the lines of the state, as their bytes (rule 15.8).
use Rattle.std.specs.Prelude.{List, [], ◌∷◌, ℕ}

-- rule 15.8: `# book account`
abbrev pub book_mark : List ℕ
book_mark = 35 ∷ 32 ∷ 98 ∷ 111 ∷ 111 ∷ 107 ∷ 32 ∷ 97 ∷ 99 ∷ 99 ∷ 111 ∷ 117 ∷ 110 ∷ 116 ∷ []

-- rule 15.8: `# book account -`
abbrev pub debt_mark : List ℕ
debt_mark = 35 ∷ 32 ∷ 98 ∷ 111 ∷ 111 ∷ 107 ∷ 32 ∷ 97 ∷ 99 ∷ 99 ∷ 111 ∷ 117 ∷ 110 ∷ 116 ∷ 32 ∷ 45 ∷ []

-- rule 15.8: ` count`
abbrev pub count_mark : List ℕ
count_mark = 32 ∷ 99 ∷ 111 ∷ 117 ∷ 110 ∷ 116 ∷ []

-- rule 15.8: ` idle`
abbrev pub idle_mark : List ℕ
idle_mark = 32 ∷ 105 ∷ 100 ∷ 108 ∷ 101 ∷ []

-- rule 15.8: ` open S`
abbrev pub short_mark : List ℕ
short_mark = 32 ∷ 111 ∷ 112 ∷ 101 ∷ 110 ∷ 32 ∷ 83 ∷ []

-- rule 15.8: ` open L`
abbrev pub long_mark : List ℕ
long_mark = 32 ∷ 111 ∷ 112 ∷ 101 ∷ 110 ∷ 32 ∷ 76 ∷ []

-- rule 15.8: `# path`
abbrev pub path_mark : List ℕ
path_mark = 35 ∷ 32 ∷ 112 ∷ 97 ∷ 116 ∷ 104 ∷ []

-- rule 15.8: ` X`
abbrev pub export_mark : List ℕ
export_mark = 32 ∷ 88 ∷ []

-- rule 15.8: ` M`
abbrev pub import_mark : List ℕ
import_mark = 32 ∷ 77 ∷ []

-- rule 15.8: `# bidder`
abbrev pub bidder_mark : List ℕ
bidder_mark = 35 ∷ 32 ∷ 98 ∷ 105 ∷ 100 ∷ 100 ∷ 101 ∷ 114 ∷ []

-- rule 15.8: `# entry`
abbrev pub entry_mark : List ℕ
entry_mark = 35 ∷ 32 ∷ 101 ∷ 110 ∷ 116 ∷ 114 ∷ 121 ∷ []

-- rule 15.8: `# engine release`
abbrev pub engine_mark : List ℕ
engine_mark = 35 ∷ 32 ∷ 101 ∷ 110 ∷ 103 ∷ 105 ∷ 110 ∷ 101 ∷ 32 ∷ 114 ∷ 101 ∷ 108 ∷ 101 ∷ 97 ∷ 115 ∷ 101 ∷ []

-- rule 15.8: ` rules`
abbrev pub rules_mark : List ℕ
rules_mark = 32 ∷ 114 ∷ 117 ∷ 108 ∷ 101 ∷ 115 ∷ []
