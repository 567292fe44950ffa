-- The marks of a reply, as their bytes (rule 15.7).
use Rattle.std.specs.Prelude.{List, [], ◌∷◌, ℕ}

-- rule 15.7: `= ok`
abbrev pub ok_mark : List ℕ
ok_mark = 61 ∷ 32 ∷ 111 ∷ 107 ∷ []

-- rule 15.7: `= refused`
abbrev pub refused_mark : List ℕ
refused_mark = 61 ∷ 32 ∷ 114 ∷ 101 ∷ 102 ∷ 117 ∷ 115 ∷ 101 ∷ 100 ∷ []

-- rule 15.7: ` |` before the words of a bid, and of a path after the first
abbrev pub bar_mark : List ℕ
bar_mark = 32 ∷ 124 ∷ []

-- rule 15.7: ` /` before the words of the first path
abbrev pub slash_mark : List ℕ
slash_mark = 32 ∷ 47 ∷ []
