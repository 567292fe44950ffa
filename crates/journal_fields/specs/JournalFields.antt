-- The fields of a journal's line (rules 15.1 and 15.3): every field but the first comes after one space. A field read at the front of a text has
-- its value and how many bytes it takes with that space, 0 where it is not present.
use Rattle.std.specs.Prelude.{Bool, cond, not, List, [], ◌∷◌, ℕ, zero, suc, ◌+◌, ◌-◌, ◌^◌, leb, eqb, ℤ, pos, neg_ℤ, length, drop}
use Rattle.text_numbers.specs.Decimal.{digits_in, no_leading_zero, value_from}
use Rattle.text_fields.specs.Fields.{space, word_top, starts_with}
use Rattle.text_fields.specs.declared.Field.{Field}
use Rattle.journal_fields.specs.declared.Found.{Found}

-- rule 15.3: amounts are below 2^64, and the sizes of prices below 2^63
abbrev pub wide_top : ℕ
wide_top = 2 ^ 64 - 1

abbrev pub price_top : ℕ
price_top = 2 ^ 63 - 1

-- a field that is not present, and whether one is
abbrev pub no_field : Field
no_field = record { value = 0; used = 0 }

abbrev pub present : Field → Bool
present f = not (eqb f.used 0)

-- rule 15.3: the value of digits, and how many they are, if the value is at most a limit
abbrev pub value_up_to : ℕ → List ℕ → Field
value_up_to limit ds = cond (leb (value_from 0 ds) limit) (record { value = value_from 0 ds; used = length ds }) no_field

-- rules 15.1 and 15.3: digits with no zero in front of another digit, whose value is at most a limit
abbrev pub numeral_of : ℕ → List ℕ → Field
numeral_of limit ds = cond (no_leading_zero ds) (value_up_to limit ds) no_field

-- the number at the front of a text
unfoldable pub numeral : ℕ → List ℕ → Field
numeral limit text = numeral_of limit (digits_in text)

-- a field after `n` other bytes
abbrev pub field_after : ℕ → Field → Field
field_after n f = cond (eqb f.used 0) no_field (record { value = f.value; used = n + f.used })

-- rule 15.1: a number up to a limit, after exactly one space
unfoldable pub number : ℕ → List ℕ → Field
number limit text = cond (starts_with (space ∷ []) text) (field_after 1 (numeral limit (drop 1 text))) no_field

-- rule 15.1: a field that ends the line, with no space after it
abbrev pub closing : List ℕ → Field → Field
closing text f = cond (eqb f.used (length text)) f no_field

-- a number up to a limit that ends the line
unfoldable pub last_number : ℕ → List ℕ → Field
last_number limit text = closing text (number limit text)

-- whether what was looked for is present
abbrev pub is_found : {X : Type 0} → Found X → Bool
is_found f = not (eqb f.used 0)

-- one of two words, each given with its space and with what it stands for; where neither is present that is what the first stands for
unfoldable pub choice : {X : Type 0} → List ℕ → X → List ℕ → X → List ℕ → Found X
choice first one second other text =
    cond (starts_with first text)
    (record { value = one; used = length first })
    (cond (starts_with second text) (record { value = other; used = length second }) (record { value = one; used = 0 }))

-- ---- Prices

-- the sign of a price below 0, after its space
abbrev pub minus : List ℕ
minus = space ∷ 45 ∷ []

-- a price that is not present, and one from 0 on
abbrev pub absent_price : Found ℤ
absent_price = record { value = pos 0; used = 0 }

abbrev pub price_of_field : Field → Found ℤ
price_of_field f = record { value = pos f.value; used = f.used }

-- rule 15.3: minus zero is no price
abbrev pub below_zero : Field → Found ℤ
below_zero f = cond (eqb f.value 0) absent_price (record { value = neg_ℤ (pos f.value); used = 2 + f.used })

-- rule 15.3: a price has a size below 2^63, and a minus sign where it is below 0
unfoldable pub price : List ℕ → Found ℤ
price text =
    cond (starts_with minus text) (below_zero (numeral price_top (drop 2 text))) (price_of_field (number price_top text))

-- ---- Lists: fields of one sort, one after another, at most as many as are asked for. `used` says how many bytes such a field
-- takes at the front of a text, and `value` what it says.
module _ {X : Type 0} (used : List ℕ → ℕ) (value : List ℕ → X) where
  -- what they say
  abbrev pub fields_said : ℕ → List ℕ → List X
  fields_said zero text = []
  fields_said (suc k) text = cond (eqb (used text) 0) [] (value text ∷ fields_said k (drop (used text) text))

  -- and the bytes that they take
  abbrev pub fields_used : ℕ → List ℕ → ℕ
  fields_used zero text = 0
  fields_used (suc k) text = cond (eqb (used text) 0) 0 (used text + fields_used k (drop (used text) text))

-- rule 15.3: words, which are below 2^32
abbrev pub word_used : List ℕ → ℕ
word_used text = (number word_top text).used

abbrev pub word_value : List ℕ → ℕ
word_value text = (number word_top text).value

-- a list of words: what it says, and its bytes
abbrev pub words_said : ℕ → List ℕ → List ℕ
words_said = fields_said word_used word_value

abbrev pub words_used : ℕ → List ℕ → ℕ
words_used = fields_used word_used word_value

-- the same of prices
abbrev pub price_used : List ℕ → ℕ
price_used text = (price text).used

abbrev pub price_value : List ℕ → ℤ
price_value text = (price text).value

abbrev pub prices_said : ℕ → List ℕ → List ℤ
prices_said = fields_said price_used price_value

abbrev pub prices_used : ℕ → List ℕ → ℕ
prices_used = fields_used price_used price_value
