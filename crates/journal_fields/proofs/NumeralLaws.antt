-- Laws about a number that is read digit by digit.
use mathlib.Core.Path.{◌≡◌, refl, sym, ◌∙◌, ap, ap₂}
use mathlib.Core.Bool.{Bool, true, false, cond, not}
use mathlib.Core.List.{List, [], ◌∷◌}
use Prim.Native.Nat.{ℕ, ◌+◌, ◌*◌, ◌-◌, ◌≤◌, ◌<◌}
use native.Mathlib.Omega.{arith}
use lib.Dec.{leb}
use lib.ListN.{length, get_or, drop}
use borrow.Author.Tests.{le-leb, lt-leb, eq-eqb, ne_eqb}
use Rattle.text_numbers.specs.Decimal.{zero_byte, digits_in, value_from, no_leading_zero}
use Rattle.text_numbers.proofs.DecimalLaws.{is-digit, value-least}
use Rattle.text_numbers.proofs.ReadLaws.{below-digits, above-digits, past-text, past-digits, first-digit, DigitHere, digit-here}
use Rattle.text_fields.specs.declared.Field.{Field}
use Rattle.journal_fields.specs.JournalFields.{no_field, value_up_to, numeral_of, numeral}

abbrev made : ℕ → ℕ → Field
made v n = record { value = v; used = n }

-- ---- The value of digits, up to a limit

-- the digits at a place, read as far as `i`: those up to there say `value`
module _ (text : List ℕ) (at limit : ℕ) where
  abbrev ds : List ℕ
  ds = digits_in (drop at text)

  pub record DigitsTo (i value : ℕ) : Type 0 where
    pub behind : at ≤ i
    pub inside : i ≤ length text
    pub within : value ≤ limit
    pub says : value_from 0 ds ≡ value_from value (digits_in (drop i text))
    pub count : length ds + at ≡ i + length (digits_in (drop i text))

  pub digits-none : at ≤ length text → DigitsTo at 0
  digits-none h =
      record {
        behind = omega arith;
        inside = h;
        within = omega arith;
        says = refl;
        count = omega arith;
      }

  module _ (i value : ℕ) (to : DigitsTo i value) where
    -- the digits end here
    ended : digits_in (drop i text) ≡ [] → made value (i - at) ≡ value_up_to limit ds
    ended e =
        let said : value_from 0 ds ≡ value = to.says ∙ ap (value_from value) e in
        let long : i - at ≡ length ds = omega (arith, to.count, ap length e) in
        ap₂ made (sym said) long
        ∙ ap (λ (t : Bool). cond t (made (value_from 0 ds) (length ds)) no_field) (sym (le-leb (value_from 0 ds) limit (omega (arith, said, to.within))))

    pub ended-below : i < length text → get_or text i 0 < zero_byte → made value (i - at) ≡ value_up_to limit ds
    ended-below h low = ended (past-digits text i h (below-digits (get_or text i 0) low))

    pub ended-above : i < length text → zero_byte + 9 < get_or text i 0 → made value (i - at) ≡ value_up_to limit ds
    ended-above h high = ended (past-digits text i h (above-digits (get_or text i 0) high))

    pub ended-line : length text ≤ i → made value (i - at) ≡ value_up_to limit ds
    ended-line h = ended (past-text text i h)

    -- one more digit is present here
    module _ (h : i < length text) (low : zero_byte ≤ get_or text i 0) (high : get_or text i 0 ≤ zero_byte + 9) where
      abbrev rest : List ℕ
      rest = digits_in (drop (i + 1) text)

      first : digits_in (drop i text) ≡ get_or text i 0 ∷ rest
      first = first-digit text i h (is-digit (get_or text i 0) low high)

      abbrev next : ℕ
      next = value * 10 + (get_or text i 0 - zero_byte)

      says-next : value_from 0 ds ≡ value_from next rest
      says-next = to.says ∙ ap (value_from value) first

      -- it makes the value larger than the limit
      pub too_large : limit < next → no_field ≡ value_up_to limit ds
      too_large more =
          ap (λ (t : Bool). cond t (made (value_from 0 ds) (length ds)) no_field)
          (sym (lt-leb (value_from 0 ds) limit (omega (arith, says-next, value-least next rest))))

      -- otherwise the digits go on
      pub digits_more : next ≤ limit → DigitsTo (i + 1) next
      digits_more fits =
          record {
            behind = omega (arith, to.behind);
            inside = omega arith;
            within = fits;
            says = says-next;
            count = omega (arith, to.count, ap length first);
          }

-- ---- No zero in front of another digit

module _ (limit : ℕ) where
  -- more than one digit was read within the limit only if there are so many
  pub used_all : (ds : List ℕ) → (value_up_to limit ds).used ≤ length ds
  used_all ds = go (leb (value_from 0 ds) limit)
    where
      go : (t : Bool) → (cond t (made (value_from 0 ds) (length ds)) no_field).used ≤ length ds
      go true = omega arith
      go false = omega arith

  -- a zero in front of another digit
  zero-led : (c : ℕ) (cs : List ℕ) → 1 < length (c ∷ cs) → c ≡ zero_byte → no_field ≡ numeral_of limit (c ∷ cs)
  zero-led c [] more is = absurd (let no : ⊥ = omega arith in no)
  zero-led c (d ∷ ds) more is =
      ap (λ (t : Bool). cond (not t) (value_up_to limit (c ∷ d ∷ ds)) no_field) (sym (eq-eqb c zero_byte is))

  -- another digit in front
  other-led : (c : ℕ) (cs : List ℕ) → (c ≡ zero_byte → ⊥) → value_up_to limit (c ∷ cs) ≡ numeral_of limit (c ∷ cs)
  other-led c [] other = refl
  other-led c (d ∷ ds) other =
      ap (λ (t : Bool). cond (not t) (value_up_to limit (c ∷ d ∷ ds)) no_field) (sym (ne_eqb c zero_byte other))

  -- at most one digit within the limit: there is none, one, or the value is over the limit
  pub few-used : (ds : List ℕ) → (value_up_to limit ds).used ≤ 1 → value_up_to limit ds ≡ numeral_of limit ds
  few-used [] few = go (leb 0 limit)
    where
      go : (t : Bool) → cond t no_field no_field ≡ no_field
      go true = refl
      go false = refl
  few-used (c ∷ []) few = refl
  few-used (c ∷ d ∷ ds) few = go (leb (value_from 0 (c ∷ d ∷ ds)) limit) refl (no_leading_zero (c ∷ d ∷ ds))
    where
      field : Bool → Field
      field t = cond t (made (value_from 0 (c ∷ d ∷ ds)) (length (c ∷ d ∷ ds))) no_field

      go : (t : Bool) → leb (value_from 0 (c ∷ d ∷ ds)) limit ≡ t → (s : Bool) → field t ≡ cond s (field t) no_field
      go true e s = absurd (let no : ⊥ = omega (arith, few, ap (λ (t : Bool). (field t).used) e) in no)
      go false e true = refl
      go false e false = refl

  module _ (text : List ℕ) (at : ℕ) (more : 1 < (value_up_to limit (digits_in (drop at text))).used) where
    pub here : DigitHere text at
    here = digit-here text at (omega (arith, used_all (digits_in (drop at text))))

    pub zero-first : get_or text at 0 ≡ zero_byte → no_field ≡ numeral limit (drop at text)
    unfolding numeral
    zero-first is =
        zero-led (get_or text at 0) (digits_in (drop (at + 1) text)) (omega (arith, used_all (digits_in (drop at text)), ap length here.first)) is
        ∙ ap (numeral_of limit) (sym here.first)

    pub other-first : (get_or text at 0 ≡ zero_byte → ⊥) → value_up_to limit (digits_in (drop at text)) ≡ numeral limit (drop at text)
    unfolding numeral
    other-first other =
        ap (value_up_to limit) here.first
        ∙ other-led (get_or text at 0) (digits_in (drop (at + 1) text)) other
        ∙ ap (numeral_of limit) (sym here.first)

  pub few-first : (text : List ℕ) → (value_up_to limit (digits_in text)).used ≤ 1 → value_up_to limit (digits_in text) ≡ numeral limit text
  unfolding numeral
  few-first text few = few-used (digits_in text) few
