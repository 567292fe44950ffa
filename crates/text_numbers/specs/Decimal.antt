-- Numbers as bytes, written and read (rule 14.2): decimal digits, with no zero in front of another digit; on a sheet at most 13 of them.
use Rattle.std.specs.Prelude.{Bool, true, false, cond, not, ◌&&◌, List, [], ◌∷◌, ◌++◌, ℕ, zero, suc, ◌+◌, ◌*◌, ◌-◌, ◌/◌, ◌%◌, leb, ltb, eqb, length}
use Rattle.std.specs.List.{take_while}
use Rattle.market.specs.Limits.{digit_limit}
use Rattle.text_numbers.specs.declared.Number.{Number}

-- the byte of the digit 0; those of the others follow it
abbrev pub zero_byte : ℕ
zero_byte = 48

abbrev pub is_digit : ℕ → Bool
is_digit c = leb zero_byte c && leb c (zero_byte + 9)

-- ---- Writing

-- rule 14.2: the digits of a number that has at most as many of them as the first argument says
abbrev pub decimal_to : ℕ → ℕ → List ℕ
decimal_to zero n = []
decimal_to (suc k) n = cond (ltb n 10) ((zero_byte + n) ∷ []) (decimal_to k (n / 10) ++ ((zero_byte + n % 10) ∷ []))

-- a number of 64 bits has at most 20 digits
abbrev pub decimal_digits : ℕ
decimal_digits = 20

unfoldable pub decimal : ℕ → List ℕ
decimal n = decimal_to decimal_digits n

-- ---- Reading

-- the digits at the front of a text
abbrev pub digits_in : List ℕ → List ℕ
digits_in text = take_while is_digit text

-- the value of digits that follow a number which was already read
abbrev pub value_from : ℕ → List ℕ → ℕ
value_from n [] = n
value_from n (c ∷ cs) = value_from (n * 10 + (c - zero_byte)) cs

-- rule 14.2: a number has a digit, and no zero in front of another digit
abbrev pub no_leading_zero : List ℕ → Bool
no_leading_zero [] = false
no_leading_zero (c ∷ []) = true
no_leading_zero (c ∷ d ∷ ds) = not (eqb c zero_byte)

-- rule 14.2: on a sheet no number has more than 13 digits
abbrev pub right_digits : List ℕ → Bool
right_digits ds = no_leading_zero ds && leb (length ds) digit_limit

-- the number at the front of a text, and how many digits it has: 0 digits if there is none
abbrev pub number_of : List ℕ → Number
number_of ds =
    record { value = cond (right_digits ds) (value_from 0 ds) 0; digits = cond (right_digits ds) (length ds) 0 }

abbrev pub number_at : List ℕ → Number
number_at text = number_of (digits_in text)
