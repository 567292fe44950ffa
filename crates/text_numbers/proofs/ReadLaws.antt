-- Laws about digits that are read at a place of a text.
use mathlib.Core.Path.{◌≡◌, refl, sym, ◌∙◌, ap}
use mathlib.Core.Bool.{Bool, true, false, cond, ◌&&◌, and-false}
use mathlib.Core.List.{List, [], ◌∷◌}
use Prim.Native.Nat.{ℕ, ◌+◌, ◌*◌, ◌-◌, ◌^◌, ◌≤◌, ◌<◌}
use native.Mathlib.Nat.{pow-le-pow_right}
use native.Mathlib.Numerals.{add-one}
use native.Mathlib.Omega.{arith}
use lib.Dec.{leb, ltb}
use lib.ListN.{length, get_or, take, drop, drop_of_length-le}
use lib.Seq.{drop-cons, take-append_seam}
use borrow.Author.Tests.{ltb-true, ltb-false, lt-leb}
use Rattle.market.specs.Books.{every}
use Rattle.market.specs.Limits.{digit_limit}
use Rattle.market.proofs.Every.{every-within}
use Rattle.text_numbers.specs.Decimal.{zero_byte, is_digit, digits_in, value_from}
use Rattle.text_numbers.proofs.DecimalLaws.{digit-at-least, digit-at-most, digits-cons, digits-split}

-- bytes that are no digits
pub below-digits : (c : ℕ) → c < zero_byte → is_digit c ≡ false
below-digits c h = ap (λ (t : Bool). t && leb c (zero_byte + 9)) (lt-leb zero_byte c h)

pub above-digits : (c : ℕ) → zero_byte + 9 < c → is_digit c ≡ false
above-digits c h =
    ap (λ (t : Bool). leb zero_byte c && t) (lt-leb c (zero_byte + 9) h) ∙ and-false (leb zero_byte c)

-- the digits at a place: the first of them, and those after it
module _ (text : List ℕ) (i : ℕ) where
  abbrev pub digits_from : List ℕ
  digits_from = digits_in (drop i text)

  pub past-text : length text ≤ i → digits_from ≡ []
  past-text h = ap digits_in (drop_of_length-le text h)

  apart : i < length text → digits_from ≡ cond (is_digit (get_or text i 0)) (get_or text i 0 ∷ digits_in (drop (i + 1) text)) []
  apart h =
      ap digits_in (drop-cons text i 0 h ∙ ap (λ (k : ℕ). get_or text i 0 ∷ drop k text) (sym (add-one i)))
      ∙ digits-cons (get_or text i 0) (drop (i + 1) text)

  pub past-digits : i < length text → is_digit (get_or text i 0) ≡ false → digits_from ≡ []
  past-digits h e = apart h ∙ ap (λ (t : Bool). cond t (get_or text i 0 ∷ digits_in (drop (i + 1) text)) []) e

  pub first-digit : i < length text → is_digit (get_or text i 0) ≡ true → digits_from ≡ get_or text i 0 ∷ digits_in (drop (i + 1) text)
  first-digit h e = apart h ∙ ap (λ (t : Bool). cond t (get_or text i 0 ∷ digits_in (drop (i + 1) text)) []) e

  -- what is known of a place where there are digits
  pub record DigitHere : Type 0 where
    pub within : i < length text
    pub low : zero_byte ≤ get_or text i 0
    pub high : get_or text i 0 ≤ zero_byte + 9
    pub first : digits_from ≡ get_or text i 0 ∷ digits_in (drop (i + 1) text)

  pub digit-here : 1 ≤ length digits_from → DigitHere
  digit-here some = go (ltb i (length text)) (is_digit (get_or text i 0)) refl refl
    where
      go : (s t : Bool) → ltb i (length text) ≡ s → is_digit (get_or text i 0) ≡ t → DigitHere
      go true true e d =
          let h : i < length text = ltb-true i (length text) e in
          record {
            within = h;
            low = digit-at-least (get_or text i 0) d;
            high = digit-at-most (get_or text i 0) d;
            first = first-digit h d;
          }
      go true false e d =
          absurd (let none : ⊥ = omega (arith, ap length (past-digits (ltb-true i (length text) e) d)) in none)
      go false t e d =
          absurd (let none : ⊥ = omega (arith, ap length (past-text (ltb-false i (length text) e))) in none)

-- as many bytes as there are digits are the digits
pub digits-taken : (text : List ℕ) (n : ℕ) → n ≡ length (digits_in text) → take n text ≡ digits_in text
digits-taken text n e =
    ap (λ (k : ℕ). take k text) e ∙ ap (take (length (digits_in text))) (digits-split text) ∙ take-append_seam (digits_in text) (drop (length (digits_in text)) text)

-- the value of digits, computed up to the digit `i`
module _ (ds : List ℕ) where
  pub record ValueTo (i value : ℕ) : Type 0 where
    pub says : value_from 0 ds ≡ value_from value (drop i ds)
    pub below : value < 10 ^ i

  module _ (i value : ℕ) (to : ValueTo i value) (digits : every is_digit ds ≡ true) (h : i < length ds) where
    abbrev c : ℕ
    c = get_or ds i 0

    is : is_digit c ≡ true
    is = every-within is_digit ds i 0 h digits

    -- the next digit, and room for it
    pub digit-low : zero_byte ≤ c
    digit-low = digit-at-least c is

    pub digit-high : c ≤ zero_byte + 9
    digit-high = digit-at-most c is

    pub value-small : length ds ≤ digit_limit → value < 10 ^ 12
    value-small few = omega (arith, to.below, pow-le-pow_right {n = 10} (omega arith) {i = i} {j = 12} (omega arith))

    pub value-one : ValueTo (i + 1) (value * 10 + (c - zero_byte))
    value-one =
        record {
          says = to.says ∙ ap (value_from value) (drop-cons ds i 0 h ∙ ap (λ (k : ℕ). c ∷ drop k ds) (sym (add-one i)));
          below = rw (add-one i) (omega (arith, digit-high, to.below));
        }
