-- Laws about numbers as text: a number that is written reads as the same number, and what reads as a number is how it is written.
use mathlib.Core.Path.{◌≡◌, refl, sym, ◌∙◌, ap, ap₂, subst}
use mathlib.Core.Bool.{Bool, true, false, cond, not, ◌&&◌, false≢true}
use mathlib.Core.List.{List, [], ◌∷◌, ◌++◌}
use Prim.Native.Nat.{ℕ, zero, suc, ◌+◌, ◌*◌, ◌-◌, ◌/◌, ◌%◌, ◌^◌, ◌≤◌, ◌<◌}
use native.Mathlib.Nat.{pow-succ', pow-le-pow_right, mul-le-mul_right, mul_assoc, lt_of_lt_of_le}
use native.Mathlib.Omega.{arith}
use lib.Dec.{leb, ltb, eqb}
use lib.ListN.{length, get_or, take, drop, length-append}
use lib.Seq.{take_all, take-suc, length-take-le}
use borrow.Author.Tests.{lt-ltb, le-ltb, ltb-true, ltb-false, le-leb, leb-true, eqb-false, ne_eqb, not-true}
use Rattle.std.proofs.lemmas.List.Sums.{take_while-cons}
use Rattle.market.specs.Books.{every}
use Rattle.market.specs.Limits.{digit_limit}
use Rattle.market.proofs.Every.{every_append, every_take, every-within}
use Rattle.market.proofs.Tests.{left-true, right-true}
use Rattle.text_numbers.specs.Decimal.{zero_byte, is_digit, decimal_to, decimal, digits_in, value_from, no_leading_zero, right_digits, number_of, number_at}
use Rattle.text_numbers.specs.declared.Number.{Number}

-- ---- A number, digit by digit

-- a property that numbers of one digit have, and longer ones have if their tenth has it, is a property of every number
module _ (P : ℕ → List ℕ → Type 0) (small : (n : ℕ) → n < 10 → P n ((zero_byte + n) ∷ [])) (more : (n : ℕ) (ds : List ℕ) → 10 ≤ n → P (n / 10) ds → P n (ds ++ ((zero_byte + n % 10) ∷ []))) where
  by_digits : (k n : ℕ) → n < 10 ^ suc k → P n (decimal_to (suc k) n)
  by_digits zero n h =
      subst (λ (t : Bool). P n (cond t ((zero_byte + n) ∷ []) ((zero_byte + n % 10) ∷ [])))
      (sym (lt-ltb n 10 (omega arith))) (small n (omega arith))
  by_digits (suc k) n h = go (ltb n 10) refl (by_digits k (n / 10) (omega arith))
    where
      go : (t : Bool) → ltb n 10 ≡ t → P (n / 10) (decimal_to (suc k) (n / 10)) → P n (cond t ((zero_byte + n) ∷ []) (decimal_to (suc k) (n / 10) ++ ((zero_byte + n % 10) ∷ [])))
      go true e p = small n (ltb-true n 10 e)
      go false e p = more n (decimal_to (suc k) (n / 10)) (ltb-false n 10 e) p

  of-decimal : (n : ℕ) → n < 10 ^ 20 → P n (decimal n)
  unfolding decimal
  of-decimal n h = by_digits 19 n h

-- room for one more digit changes nothing
same_digits : (k n : ℕ) → n < 10 ^ suc k → decimal_to (suc (suc k)) n ≡ decimal_to (suc k) n
same_digits zero n h = rw (lt-ltb n 10 (omega arith))
same_digits (suc k) n h =
    ap (λ (ds : List ℕ). cond (ltb n 10) ((zero_byte + n) ∷ []) (ds ++ ((zero_byte + n % 10) ∷ [])))
    (same_digits k (n / 10) (omega arith))

pub decimal-one : (n : ℕ) → n < 10 → decimal n ≡ (zero_byte + n) ∷ []
unfolding decimal
decimal-one n h =
    ap (λ (t : Bool). cond t ((zero_byte + n) ∷ []) (decimal_to 19 (n / 10) ++ ((zero_byte + n % 10) ∷ []))) (lt-ltb n 10 h)

pub decimal-more : (n : ℕ) → 10 ≤ n → n < 10 ^ 20 → decimal n ≡ decimal (n / 10) ++ ((zero_byte + n % 10) ∷ [])
unfolding decimal
decimal-more n h below =
    ap (λ (t : Bool). cond t ((zero_byte + n) ∷ []) (decimal_to 19 (n / 10) ++ ((zero_byte + n % 10) ∷ []))) (le-ltb n 10 h)
    ∙ ap (λ (ds : List ℕ). ds ++ ((zero_byte + n % 10) ∷ [])) (sym (same_digits 18 (n / 10) (omega arith)))

-- ---- Digits

pub digit-at-least : (c : ℕ) → is_digit c ≡ true → zero_byte ≤ c
digit-at-least c e = leb-true zero_byte c (left-true (leb zero_byte c) (leb c (zero_byte + 9)) e)

pub digit-at-most : (c : ℕ) → is_digit c ≡ true → c ≤ zero_byte + 9
digit-at-most c e = leb-true c (zero_byte + 9) (right-true (leb zero_byte c) (leb c (zero_byte + 9)) e)

pub is-digit : (c : ℕ) → zero_byte ≤ c → c ≤ zero_byte + 9 → is_digit c ≡ true
is-digit c low high = ap₂ ◌&&◌ (le-leb zero_byte c low) (le-leb c (zero_byte + 9) high)

digit-only : (n : ℕ) → n < 10 → every is_digit ((zero_byte + n) ∷ []) ≡ true
digit-only n h = ap (λ (t : Bool). t && true) (is-digit (zero_byte + n) (omega arith) (omega arith))

digits-to : (k n : ℕ) → every is_digit (decimal_to k n) ≡ true
digits-to zero n = refl
digits-to (suc k) n = go (ltb n 10) refl (digits-to k (n / 10))
  where
    go : (t : Bool) → ltb n 10 ≡ t → every is_digit (decimal_to k (n / 10)) ≡ true → every is_digit (cond t ((zero_byte + n) ∷ []) (decimal_to k (n / 10) ++ ((zero_byte + n % 10) ∷ []))) ≡ true
    go true e p = digit-only n (ltb-true n 10 e)
    go false e p =
        every_append is_digit (decimal_to k (n / 10)) ((zero_byte + n % 10) ∷ []) p (digit-only (n % 10) (omega arith))

-- a number is written in digits alone
pub decimal-digits : (n : ℕ) → every is_digit (decimal n) ≡ true
unfolding decimal
decimal-digits n = digits-to 20 n

-- the digits at the front of a text, by its first byte
pub digits-cons : (c : ℕ) (cs : List ℕ) → digits_in (c ∷ cs) ≡ cond (is_digit c) (c ∷ digits_in cs) []
digits-cons c cs = take_while-cons is_digit c cs

-- digits are read up to the first byte that is not a digit
pub digits-front : (ds rest : List ℕ) (c : ℕ) → every is_digit ds ≡ true → is_digit c ≡ false → digits_in (ds ++ (c ∷ rest)) ≡ ds
digits-front [] rest c h e = digits-cons c rest ∙ ap (λ (t : Bool). cond t (c ∷ digits_in rest) []) e
digits-front (d ∷ ds) rest c h e =
    digits-cons d (ds ++ (c ∷ rest))
    ∙ ap (λ (t : Bool). cond t (d ∷ digits_in (ds ++ (c ∷ rest))) []) (left-true (is_digit d) (every is_digit ds) h)
    ∙ ap (λ (l : List ℕ). d ∷ l) (digits-front ds rest c (right-true (is_digit d) (every is_digit ds) h) e)

-- or up to the end
pub digits-whole : (ds : List ℕ) → every is_digit ds ≡ true → digits_in ds ≡ ds
digits-whole [] h = refl
digits-whole (d ∷ ds) h =
    digits-cons d ds
    ∙ ap (λ (t : Bool). cond t (d ∷ digits_in ds) []) (left-true (is_digit d) (every is_digit ds) h)
    ∙ ap (λ (l : List ℕ). d ∷ l) (digits-whole ds (right-true (is_digit d) (every is_digit ds) h))

pub digits-split : (text : List ℕ) → text ≡ digits_in text ++ drop (length (digits_in text)) text
digits-split [] = refl
digits-split (c ∷ cs) = rw (digits-cons c cs) (go (is_digit c) (digits-split cs))
  where
    go : (t : Bool) → cs ≡ digits_in cs ++ drop (length (digits_in cs)) cs → c ∷ cs ≡ cond t (c ∷ digits_in cs) [] ++ drop (length (cond t (c ∷ digits_in cs) [])) (c ∷ cs)
    go true e = ap (λ (l : List ℕ). c ∷ l) e
    go false e = refl

pub digits-only : (text : List ℕ) → every is_digit (digits_in text) ≡ true
digits-only [] = refl
digits-only (c ∷ cs) = rw (digits-cons c cs) (go (is_digit c) refl (digits-only cs))
  where
    go : (t : Bool) → is_digit c ≡ t → every is_digit (digits_in cs) ≡ true → every is_digit (cond t (c ∷ digits_in cs) []) ≡ true
    go true e p = ap₂ ◌&&◌ e p
    go false e p = refl

-- ---- How long a number is

pub decimal-some : (n : ℕ) → 1 ≤ length (decimal n)
unfolding decimal
decimal-some n = go (ltb n 10)
  where
    go : (t : Bool) → 1 ≤ length (cond t ((zero_byte + n) ∷ []) (decimal_to 19 (n / 10) ++ ((zero_byte + n % 10) ∷ [])))
    go true = omega arith
    go false = omega (arith, length-append (decimal_to 19 (n / 10)) ((zero_byte + n % 10) ∷ []))

pub decimal-length : (k n : ℕ) → 1 ≤ k → k ≤ 20 → n < 10 ^ k → length (decimal n) ≤ k
decimal-length k n some few h =
    of-decimal (λ (n : ℕ) (ds : List ℕ). ((k : ℕ) → 1 ≤ k → n < 10 ^ k → length ds ≤ k))
    (λ n below k some h. omega arith) (λ n ds above shorter k some h. longer n ds above shorter k some h) n
    (omega (arith, pow-le-pow_right {n = 10} (omega arith) {i = k} {j = 20} few)) k some h
  where
    longer : (n : ℕ) (ds : List ℕ) → 10 ≤ n → ((k : ℕ) → 1 ≤ k → n / 10 < 10 ^ k → length ds ≤ k) → (k : ℕ) → 1 ≤ k → n < 10 ^ k → length (ds ++ ((zero_byte + n % 10) ∷ [])) ≤ k
    longer n ds above shorter zero some h = omega arith
    longer n ds above shorter (suc zero) some h = omega arith
    longer n ds above shorter (suc (suc k)) some h =
        omega (arith, shorter (suc k) (omega arith) (omega arith), length-append ds ((zero_byte + n % 10) ∷ []))

-- ---- What digits say

value-snoc : (m : ℕ) (ds : List ℕ) (d : ℕ) → value_from m (ds ++ (d ∷ [])) ≡ value_from m ds * 10 + (d - zero_byte)
value-snoc m [] d = refl
value-snoc m (c ∷ ds) d = value-snoc (m * 10 + (c - zero_byte)) ds d

-- digits only add to what was read before them
pub value-least : (m : ℕ) (ds : List ℕ) → m ≤ value_from m ds
value-least m [] = omega arith
value-least m (c ∷ ds) = omega (arith, value-least (m * 10 + (c - zero_byte)) ds)

pub value-below : (m : ℕ) (ds : List ℕ) → every is_digit ds ≡ true → value_from m ds < (m + 1) * 10 ^ length ds
value-below m [] h = omega arith
value-below m (c ∷ ds) h =
    let p = 10 ^ length ds in
    let next : m * 10 + (c - zero_byte) + 1 ≤ (m + 1) * 10 = omega (arith, digit-at-most c (left-true (is_digit c) (every is_digit ds) h)) in
    let same : (m + 1) * 10 * p ≡ (m + 1) * 10 ^ suc (length ds) = mul_assoc (m + 1) 10 p ∙ ap (λ (x : ℕ). (m + 1) * x) (sym (pow-succ' 10 (length ds))) in
    subst (λ (x : ℕ). value_from m (c ∷ ds) < x) same
    (lt_of_lt_of_le (value-below (m * 10 + (c - zero_byte)) ds (right-true (is_digit c) (every is_digit ds) h))
    (mul-le-mul_right p next))

pub value-within : (k : ℕ) (ds : List ℕ) → every is_digit ds ≡ true → length ds ≤ k → value_from 0 ds < 10 ^ k
value-within k ds h few =
    omega (arith, value-below 0 ds h, pow-le-pow_right {n = 10} (omega arith) {i = length ds} {j = k} few)

pub value-bound : (ds : List ℕ) → every is_digit ds ≡ true → length ds ≤ 13 → value_from 0 ds < 10 ^ 13
value-bound ds h few = value-within 13 ds h few

-- the digits that are written have the value of the number
pub decimal-value : (n : ℕ) → n < 10 ^ 20 → value_from 0 (decimal n) ≡ n
decimal-value n h =
    of-decimal (λ (n : ℕ) (ds : List ℕ). value_from 0 ds ≡ n) (λ n below. omega arith)
    (λ n ds above p. omega (arith, value-snoc 0 ds (zero_byte + n % 10))) n h

-- ---- Leading zeros

abbrev leads : List ℕ → Bool
leads [] = false
leads (c ∷ cs) = not (eqb c zero_byte)

leads-plain : (ds : List ℕ) → leads ds ≡ true → no_leading_zero ds ≡ true
leads-plain [] h = h
leads-plain (c ∷ []) h = refl
leads-plain (c ∷ d ∷ ds) h = h

plain-leads : (ds : List ℕ) → 2 ≤ length ds → no_leading_zero ds ≡ true → leads ds ≡ true
plain-leads [] long h = h
plain-leads (c ∷ []) long h = absurd (let short : ⊥ = omega arith in short)
plain-leads (c ∷ d ∷ ds) long h = h

leads-append : (ds es : List ℕ) → leads ds ≡ true → leads (ds ++ es) ≡ true
leads-append [] es h = absurd (false≢true h)
leads-append (c ∷ ds) es h = h

leads-take : (k : ℕ) (ds : List ℕ) → leads ds ≡ true → leads (take (suc k) ds) ≡ true
leads-take k [] h = h
leads-take k (c ∷ ds) h = h

leads-value : (ds : List ℕ) → every is_digit ds ≡ true → leads ds ≡ true → 1 ≤ value_from 0 ds
leads-value [] digits h = absurd (false≢true h)
leads-value (c ∷ ds) digits h =
    let low : zero_byte ≤ c = digit-at-least c (left-true (is_digit c) (every is_digit ds) digits) in
    let other : c ≡ zero_byte → ⊥ = eqb-false c zero_byte (not-true (eqb c zero_byte) h) in
    omega (arith, value-least (0 * 10 + (c - zero_byte)) ds, other)

decimal-leads : (n : ℕ) → n < 10 ^ 20 → 1 ≤ n → leads (decimal n) ≡ true
decimal-leads n h =
    of-decimal (λ (n : ℕ) (ds : List ℕ). (1 ≤ n → leads ds ≡ true))
    (λ n below some. ap not (ne_eqb (zero_byte + n) zero_byte (λ e. omega arith)))
    (λ n ds above p some. leads-append ds ((zero_byte + n % 10) ∷ []) (p (omega arith))) n h

-- a number is written without leading zeros
pub decimal-plain : (n : ℕ) → n < 10 ^ 20 → no_leading_zero (decimal n) ≡ true
decimal-plain zero h = ap no_leading_zero (decimal-one zero (omega arith))
decimal-plain (suc n) h = leads-plain (decimal (suc n)) (decimal-leads (suc n) h (omega arith))

-- digits without leading zeros are how their value is written
from_end : (k : ℕ) (ds : List ℕ) → length ds ≡ suc k → suc k ≤ 20 → every is_digit ds ≡ true → no_leading_zero ds ≡ true → decimal (value_from 0 ds) ≡ ds
from_end zero [] long few digits h = absurd (let short : ⊥ = omega arith in short)
from_end zero (c ∷ []) long few digits h =
    let low : zero_byte ≤ c = digit-at-least c (left-true (is_digit c) true digits) in
    let high : c ≤ zero_byte + 9 = digit-at-most c (left-true (is_digit c) true digits) in
    let same : zero_byte + (0 * 10 + (c - zero_byte)) ≡ c = omega arith in
    decimal-one (0 * 10 + (c - zero_byte)) (omega arith) ∙ ap (λ (b : ℕ). b ∷ []) same
from_end zero (c ∷ d ∷ ds) long few digits h = absurd (let short : ⊥ = omega arith in short)
from_end (suc k) ds long few digits h =
    let front = take (suc k) ds in
    let last = get_or ds (suc k) 0 in
    let v = value_from 0 front in
    let front_long : length front ≡ suc k = length-take-le (suc k) ds (omega arith) in
    let front-digits : every is_digit front ≡ true = every_take is_digit (suc k) ds digits in
    let front-leads : leads front ≡ true = leads-take k ds (plain-leads ds (omega arith) h) in
    let is : is_digit last ≡ true = every-within is_digit ds (suc k) 0 (omega arith) digits in
    let low : zero_byte ≤ last = digit-at-least last is in
    let high : last ≤ zero_byte + 9 = digit-at-most last is in
    let split : ds ≡ front ++ (last ∷ []) = sym (take_all (suc (suc k)) ds (omega arith)) ∙ take-suc ds (suc k) 0 (omega arith) in
    let value : value_from 0 ds ≡ v * 10 + (last - zero_byte) = ap (value_from 0) split ∙ value-snoc 0 front last in
    let some : 1 ≤ v = leads-value front front-digits front-leads in
    let bound : value_from 0 ds < 10 ^ 20 = value-within 20 ds digits (omega arith) in
    let tenth : value_from 0 ds / 10 ≡ v = omega arith in
    let rest : zero_byte + value_from 0 ds % 10 ≡ last = omega arith in
    decimal-more (value_from 0 ds) (omega arith) bound
    ∙ ap₂ (λ (m : ℕ) (b : ℕ). decimal m ++ (b ∷ [])) tenth rest
    ∙ ap (λ (l : List ℕ). l ++ (last ∷ []))
    (from_end k front front_long (omega arith) front-digits (leads-plain front front-leads))
    ∙ sym split

pub value-decimal : (ds : List ℕ) → every is_digit ds ≡ true → no_leading_zero ds ≡ true → length ds ≤ 20 → decimal (value_from 0 ds) ≡ ds
value-decimal [] digits h few = absurd (false≢true h)
value-decimal (c ∷ ds) digits h few = from_end (length ds) (c ∷ ds) refl few digits h

-- ---- A number at the front of a text

abbrev shown : List ℕ → Bool → Number
shown ds t = record { value = cond t (value_from 0 ds) 0; digits = cond t (length ds) 0 }

pub right-number : (ds : List ℕ) → right_digits ds ≡ true → number_of ds ≡ record { value = value_from 0 ds; digits = length ds }
right-number ds e = ap (shown ds) e

pub wrong-number : (ds : List ℕ) → right_digits ds ≡ false → number_of ds ≡ record { value = 0; digits = 0 }
wrong-number ds e = ap (shown ds) e

-- a number that was written is read, if no digit follows it
pub number-written : (n c : ℕ) (rest : List ℕ) → n < 10 ^ 13 → is_digit c ≡ false → number_at (decimal n ++ (c ∷ rest)) ≡ record { value = n; digits = length (decimal n) }
number-written n c rest h e =
    let few : length (decimal n) ≤ 13 = decimal-length 13 n (omega arith) (omega arith) h in
    let right : right_digits (decimal n) ≡ true = ap₂ ◌&&◌ (decimal-plain n (omega arith)) (le-leb (length (decimal n)) digit_limit few) in
    ap number_of (digits-front (decimal n) rest c (decimal-digits n) e)
    ∙ right-number (decimal n) right
    ∙ ap (λ (v : ℕ). record { value = v; digits = length (decimal n) }) (decimal-value n (omega arith))

-- and a number that is read is in the text as it is written
record NumberRead (text : List ℕ) (r : Number) : Type 0 where
  below : r.value < 10 ^ 13
  long : r.digits ≡ length (decimal r.value)
  again : decimal r.value ++ drop r.digits text ≡ text

read_number : (text : List ℕ) → 1 ≤ (number_at text).digits → NumberRead text (number_at text)
read_number text = go (right_digits ds) refl
  where
    ds : List ℕ
    ds = digits_in text

    go : (t : Bool) → right_digits ds ≡ t → 1 ≤ (shown ds t).digits → NumberRead text (shown ds t)
    go true e some =
        let few : length ds ≤ 13 = leb-true (length ds) digit_limit (right-true (no_leading_zero ds) (leb (length ds) digit_limit) e) in
        let right : no_leading_zero ds ≡ true = left-true (no_leading_zero ds) (leb (length ds) digit_limit) e in
        let same : decimal (value_from 0 ds) ≡ ds = value-decimal ds (digits-only text) right (omega arith) in
        record {
          below = value-bound ds (digits-only text) few;
          long = ap length (sym same);
          again = ap (λ (l : List ℕ). l ++ drop (length ds) text) same ∙ sym (digits-split text);
        }
    go false e some = absurd (let none : ⊥ = omega arith in none)

pub number_read : (text : List ℕ) → 1 ≤ (number_at text).digits → decimal (number_at text).value ++ drop (number_at text).digits text ≡ text
number_read text some = (read_number text some).again

pub number-length : (text : List ℕ) → 1 ≤ (number_at text).digits → (number_at text).digits ≡ length (decimal (number_at text).value)
number-length text some = (read_number text some).long

pub number-below : (text : List ℕ) → 1 ≤ (number_at text).digits → (number_at text).value < 10 ^ 13
number-below text some = (read_number text some).below
