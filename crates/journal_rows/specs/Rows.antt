-- Rows of a journal's replies and of its state (rules 15.7 and 15.8): a row is a mark and numbers, each number after one space.
use Rattle.std.specs.Prelude.{List, [], ◌∷◌, ◌++◌, ℕ, zero, suc, take, drop}
use Rattle.text_numbers.specs.Decimal.{decimal}
use Rattle.text_fields.specs.Fields.{space, newline}

-- numbers, each after one space
abbrev pub spaced_numbers : List ℕ → List ℕ
spaced_numbers [] = []
spaced_numbers (n ∷ ns) = space ∷ (decimal n ++ spaced_numbers ns)

-- a row
abbrev pub row : List ℕ → List ℕ → List ℕ
row mark ns = mark ++ spaced_numbers ns

-- a row that ends its line
abbrev pub last_row : List ℕ → List ℕ → List ℕ
last_row mark ns = row mark ns ++ (newline ∷ [])

-- as many rows as the count says, of `size` numbers each, read one after another from a list
abbrev pub rows : List ℕ → ℕ → ℕ → List ℕ → List ℕ
rows mark size zero list = []
rows mark size (suc k) list = row mark (take size list) ++ rows mark size k (drop size list)
