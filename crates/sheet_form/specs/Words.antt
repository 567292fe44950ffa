-- The words that a round takes, read from a bid section (rule 14.6).
use Rattle.std.specs.Prelude.{cond, List, [], ◌∷◌, ℕ, zero, suc, ◌+◌, leb, length, drop}
use Rattle.text_numbers.specs.Decimal.{number_at}
use Rattle.text_fields.specs.Fields.{word_top}
use Rattle.sheet_lines.specs.Lines.{count_used}
use Rattle.sheet_lines.specs.declared.part.Part.TheVariants.{Bids}

-- a number as a word; in a well-formed sheet it is below 2^32
abbrev pub word_of : ℕ → ℕ
word_of n = cond (leb n word_top) n 0

-- the numbers of a text, at most as many as the first argument says, each with the byte that ends it
abbrev pub numbers_in : ℕ → List ℕ → List ℕ
numbers_in zero text = []
numbers_in (suc k) [] = []
numbers_in (suc k) (c ∷ cs) =
    word_of (number_at (c ∷ cs)).value ∷ numbers_in k (drop ((number_at (c ∷ cs)).digits + 1) (c ∷ cs))

-- rule 14.6: the words of a bid section are the numbers of its lines in order, after the line with its count; a text has no more numbers than bytes
abbrev pub section_words : List ℕ → List ℕ
section_words section = numbers_in (length section) (drop (count_used Bids section) section)
