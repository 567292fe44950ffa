-- The answers of a round for its paths: rule 7.18.
use Rattle.std.specs.Prelude.{List, [], ◌∷◌, ◌++◌, ℕ, zero, suc, get_or}

-- rule 7.18: the three words of a path, and the words of the first `n` paths
abbrev pub path_row : List ℕ → List ℕ → List ℕ → ℕ → List ℕ
path_row offered sold prices path = get_or offered path 0 ∷ get_or sold path 0 ∷ get_or prices path 0 ∷ []

abbrev pub path_rows : List ℕ → List ℕ → List ℕ → ℕ → List ℕ
path_rows offered sold prices zero = []
path_rows offered sold prices (suc n) = path_rows offered sold prices n ++ path_row offered sold prices n
