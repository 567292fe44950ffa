-- Lines, and the fields in them, written and read (rules 14.1 and 14.2). What is read at the front of a text is given by the bytes that it takes:
-- 0 if it is not there.
use Rattle.std.specs.Prelude.{Bool, cond, ◌&&◌, List, [], ◌∷◌, ◌++◌, map, ℕ, zero, suc, ◌+◌, ◌-◌, ◌^◌, leb, eqb, get_or, drop}
use Rattle.std.specs.List.{starts_with as begins}
use Rattle.market.specs.Limits.{digit_limit}
use Rattle.text_numbers.specs.Decimal.{decimal, number_at}
use Rattle.text_numbers.specs.declared.Number.{Number}
use Rattle.text_fields.specs.declared.Field.{Field}

-- rule 14.1: one space separates two fields, and byte 10 ends a line
abbrev pub space : ℕ
space = 32

abbrev pub newline : ℕ
newline = 10

-- ---- Writing

-- rule 14.1: a line of fields, each as its bytes; it neither begins nor ends with a space
abbrev pub line : List (List ℕ) → List ℕ
line [] = newline ∷ []
line (f ∷ []) = f ++ (newline ∷ [])
line (f ∷ g ∷ fs) = f ++ (space ∷ line (g ∷ fs))

-- a line of numbers
abbrev pub numbers_line : List ℕ → List ℕ
numbers_line ns = line (map decimal ns)

-- a line of a word and a number
abbrev pub count_line : List ℕ → ℕ → List ℕ
count_line word n = line (word ∷ decimal n ∷ [])

-- ---- Reading

-- rule 14.2: the largest number below 2^32, and for cash and letter the largest of 13 digits
abbrev pub word_top : ℕ
word_top = 2 ^ 32 - 1

abbrev pub amount_top : ℕ
amount_top = 10 ^ digit_limit - 1

-- whether a text begins with these bytes
abbrev pub starts_with : List ℕ → List ℕ → Bool
starts_with word text = begins eqb text word

-- a field that is a word, and the space after it
abbrev pub word_spaced : List ℕ → List ℕ
word_spaced word = word ++ (space ∷ [])

-- rules 14.1 and 14.2: a number up to a limit and the byte that ends it
abbrev pub field_of : ℕ → ℕ → List ℕ → Number → Field
field_of limit stop text n =
    cond (leb 1 n.digits && leb n.value limit && eqb (get_or text n.digits 0) stop)
    (record { value = n.value; used = n.digits + 1 })
    (record { value = 0; used = 0 })

abbrev pub field_at : ℕ → ℕ → List ℕ → Field
field_at limit stop text = field_of limit stop text (number_at text)

-- the bytes of two parts, one after the other: 0 if one of them is missing
abbrev pub both : ℕ → ℕ → ℕ
both zero n = 0
both (suc m) zero = 0
both (suc m) (suc n) = suc m + suc n

-- the bytes of numbers up to a limit, as many as the third argument says, each ended by a space and the last by another byte
abbrev pub numbers_used : ℕ → ℕ → ℕ → List ℕ → ℕ
numbers_used limit last zero text = 0
numbers_used limit last (suc zero) text = (field_at limit last text).used
numbers_used limit last (suc (suc k)) text =
    both (field_at limit space text).used (numbers_used limit last (suc k) (drop (field_at limit space text).used text))

-- and the values of these numbers
abbrev pub numbers_said : ℕ → ℕ → ℕ → List ℕ → List ℕ
numbers_said limit last zero text = []
numbers_said limit last (suc zero) text = (field_at limit last text).value ∷ []
numbers_said limit last (suc (suc k)) text =
    (field_at limit space text).value ∷ numbers_said limit last (suc k) (drop (field_at limit space text).used text)

-- the bytes of a number and of the byte that ends it
abbrev pub field_text : ℕ → ℕ → List ℕ
field_text n stop = decimal n ++ (stop ∷ [])

-- numbers one after another, each ended by a space, and the last by another byte
abbrev pub numbers_text : ℕ → List ℕ → List ℕ
numbers_text last [] = []
numbers_text last (n ∷ []) = field_text n last
numbers_text last (n ∷ m ∷ ns) = field_text n space ++ numbers_text last (m ∷ ns)
