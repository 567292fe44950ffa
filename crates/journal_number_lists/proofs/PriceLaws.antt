-- Laws about a price at a place of a line.
use mathlib.Core.Path.{◌≡◌, sym, ◌∙◌, ap}
use mathlib.Core.Bool.{Bool, true, false, cond}
use mathlib.Core.List.{List}
use Prim.Native.Nat.{ℕ, zero, suc, ◌+◌, ◌≤◌}
use native.Mathlib.Omega.{arith}
use lib.IntN.{ℤ, pos, neg_ℤ, ◌-ℤ◌, +ℤ_idl}
use lib.ListN.{drop}
use lib.Seq.{drop-drop}
use mir.Syntax.{w64}
use mir.Val.{SFits}
use borrow.Author.Tests.{eq-eqb, ne_eqb}
use Rattle.text_fields.specs.Fields.{starts_with}
use Rattle.text_fields.specs.declared.Field.{Field}
use Rattle.journal_fields.specs.declared.Found.{Found}
use Rattle.journal_fields.specs.JournalFields.{numeral, number, minus, absent_price, price_of_field, below_zero, price, price_top}

-- ---- A price at a place
module _ (line : List ℕ) (at : ℕ) where
  abbrev here : List ℕ
  here = drop at line

  module _ (s : starts_with minus here ≡ true) (f : Field) (e : f ≡ numeral price_top (drop (at + 2) line)) where
    below : price here ≡ below_zero f
    unfolding price
    below =
        ap (λ (t : Bool). cond t (below_zero (numeral price_top (drop 2 here))) (price_of_field (number price_top here))) s
        ∙ ap below_zero (ap (numeral price_top) (drop-drop 2 at line) ∙ sym e)

    pub price-zero : f.value ≡ 0 → absent_price ≡ price here
    price-zero z =
        sym (below ∙ ap (λ (t : Bool). cond t absent_price (record { value = neg_ℤ (pos f.value); used = 2 + f.used })) (eq-eqb f.value 0 z))

    pub price-below : (f.value ≡ 0 → ⊥) → ◌≡◌ {A = Found ℤ} (record { value = neg_ℤ (pos f.value); used = 2 + f.used }) (price here)
    price-below z =
        sym (below ∙ ap (λ (t : Bool). cond t absent_price (record { value = neg_ℤ (pos f.value); used = 2 + f.used })) (ne_eqb f.value 0 z))

  pub price-above : starts_with minus here ≡ false → (f : Field) → f ≡ number price_top here → price_of_field f ≡ price here
  unfolding price
  price-above s f e =
      ap price_of_field e
      ∙ ap (λ (t : Bool). cond t (below_zero (numeral price_top (drop 2 here))) (price_of_field (number price_top here))) (sym s)

-- ---- Prices fit 64 bits with a sign

pub below-fits : (n : ℕ) → n ≤ price_top → SFits w64 (neg_ℤ (pos n))
below-fits zero h = record { sfits = omega arith }
below-fits (suc n) h = record { sfits = omega arith }

-- the other sign of a size, as the code computes it
pub opposite : (n : ℕ) → pos 0 -ℤ pos n ≡ neg_ℤ (pos n)
opposite n = +ℤ_idl (neg_ℤ (pos n))
