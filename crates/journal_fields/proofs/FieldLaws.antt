-- Laws about a field at a place of a line.
use mathlib.Core.Path.{◌≡◌, refl, sym, ◌∙◌, ap, subst}
use mathlib.Core.Bool.{Bool, true, false, cond}
use mathlib.Core.List.{List, [], ◌∷◌}
use Prim.Native.Nat.{ℕ, ◌+◌, ◌≤◌}
use native.Mathlib.Omega.{arith}
use lib.Dec.{leb, eqb}
use lib.ListN.{length, drop, length-drop}
use lib.Seq.{drop-drop}
use borrow.Author.Tests.{eq-eqb, ne_eqb, leb-true}
use Rattle.text_numbers.specs.Decimal.{digits_in, value_from, no_leading_zero}
use Rattle.text_fields.specs.Fields.{space, starts_with}
use Rattle.text_fields.specs.declared.Field.{Field}
use Rattle.text_fields.proofs.ReadLaws.{starts_fit}
use Rattle.journal_fields.specs.JournalFields.{no_field, value_up_to, numeral, field_after, number}

-- a word that is present at a place ends within the line
pub word_room : (word line : List ℕ) (at : ℕ) → at ≤ length line → starts_with word (drop at line) ≡ true → at + length word ≤ length line
word_room word line at h e = omega (arith, starts_fit word (drop at line) e, length-drop at line)

-- ---- What is read is within its limit

up-to-within : (limit : ℕ) (ds : List ℕ) → (value_up_to limit ds).value ≤ limit
up-to-within limit ds = go (leb (value_from 0 ds) limit) refl
  where
    go : (t : Bool) → leb (value_from 0 ds) limit ≡ t → (cond t (record { value = value_from 0 ds; used = length ds }) no_field).value ≤ limit
    go true e = leb-true (value_from 0 ds) limit e
    go false e = omega arith

numeral-within : (limit : ℕ) (text : List ℕ) → (numeral limit text).value ≤ limit
unfolding numeral
numeral-within limit text = go (no_leading_zero (digits_in text))
  where
    go : (t : Bool) → (cond t (value_up_to limit (digits_in text)) no_field).value ≤ limit
    go true = up-to-within limit (digits_in text)
    go false = omega arith

behind-within : (limit n : ℕ) (f : Field) (t : Bool) → f.value ≤ limit → (cond t no_field (record { value = f.value; used = n + f.used })).value ≤ limit
behind-within limit n f true h = omega arith
behind-within limit n f false h = h

number-within : (limit : ℕ) (text : List ℕ) → (number limit text).value ≤ limit
unfolding number
number-within limit text = go (starts_with (space ∷ []) text)
  where
    f : Field
    f = numeral limit (drop 1 text)

    go : (t : Bool) → (cond t (field_after 1 (numeral limit (drop 1 text))) no_field).value ≤ limit
    go true = behind-within limit 1 (numeral limit (drop 1 text)) (eqb (numeral limit (drop 1 text)).used 0) (numeral-within limit (drop 1 text))
    go false = omega arith

module _ (limit : ℕ) (text : List ℕ) (f : Field) where
  pub numeral-kept : f ≡ numeral limit text → f.value ≤ limit
  numeral-kept e = subst (λ (x : Field). x.value ≤ limit) (sym e) (numeral-within limit text)

  pub number-kept : f ≡ number limit text → f.value ≤ limit
  number-kept e = subst (λ (x : Field). x.value ≤ limit) (sym e) (number-within limit text)

-- ---- A field at a place
module _ (line : List ℕ) (at : ℕ) where
  abbrev here : List ℕ
  here = drop at line

  module _ (limit : ℕ) where
    pub number-absent : starts_with (space ∷ []) here ≡ false → no_field ≡ number limit here
    unfolding number
    number-absent e = ap (λ (t : Bool). cond t (field_after 1 (numeral limit (drop 1 here))) no_field) (sym e)

    module _ (s : starts_with (space ∷ []) here ≡ true) (f : Field) (e : f ≡ numeral limit (drop (at + 1) line)) where
      same : number limit here ≡ field_after 1 f
      unfolding number
      same =
          ap (λ (t : Bool). cond t (field_after 1 (numeral limit (drop 1 here))) no_field) s
          ∙ ap (field_after 1) (ap (numeral limit) (drop-drop 1 at line) ∙ sym e)

      pub number-empty : f.used ≡ 0 → no_field ≡ number limit here
      number-empty z =
          sym (same ∙ ap (λ (t : Bool). cond t no_field (record { value = f.value; used = 1 + f.used })) (eq-eqb f.used 0 z))

      pub number-here : (f.used ≡ 0 → ⊥) → ◌≡◌ {A = Field} (record { value = f.value; used = 1 + f.used }) (number limit here)
      number-here z =
          sym (same ∙ ap (λ (t : Bool). cond t no_field (record { value = f.value; used = 1 + f.used })) (ne_eqb f.used 0 z))
