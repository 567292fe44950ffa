-- Fields and numbers of a line, piece by piece.
use mathlib.Core.Path.{◌≡◌, sym, ◌∙◌, ap, ap₂}
use mathlib.Core.List.{List, [], ◌∷◌, ◌++◌, append_assoc, append-nil}
use Prim.Native.Nat.{ℕ, ◌+◌, ◌<◌}
use native.Mathlib.Numerals.{add-one}
use native.Mathlib.Omega.{arith}
use lib.ListN.{length, get_or, drop, get_or-append, length-append, length-drop}
use lib.Seq.{drop-cons, drop-append_seam}
use Rattle.text_numbers.specs.Decimal.{decimal}
use Rattle.text_fields.specs.Fields.{space, field_text, numbers_text}
use Rattle.text_fields.proofs.FieldLaws.{text-cons}

-- the number at a place, and those after it
pub from-here : (ns : List ℕ) (i : ℕ) → i < length ns → drop i ns ≡ get_or ns i 0 ∷ drop (i + 1) ns
from-here ns i h = drop-cons ns i 0 h ∙ ap (λ (k : ℕ). get_or ns i 0 ∷ drop k ns) (sym (add-one i))

-- numbers of which the last is apart from those before it
module _ (last end : ℕ) (ns front : List ℕ) (split : ns ≡ front ++ (end ∷ [])) (i : ℕ) where
  -- a number before the last, and those after it
  pub more_numbers : i < length front → numbers_text last (drop i ns) ≡ field_text (get_or front i 0) space ++ numbers_text last (drop (i + 1) ns)
  more_numbers h =
      let long : length ns ≡ length front + 1 = ap length split ∙ length-append front (end ∷ []) in
      let here : get_or ns i 0 ≡ get_or front i 0 = ap (λ (l : List ℕ). get_or l i 0) split ∙ get_or-append front (end ∷ []) 0 i h in
      ap (numbers_text last) (from-here ns i (omega arith) ∙ ap (λ (n : ℕ). n ∷ drop (i + 1) ns) here)
      ∙ text-cons last (get_or front i 0) (drop (i + 1) ns) (omega (arith, length-drop (i + 1) ns))

  -- the last number
  pub last-number : length front ≡ i → numbers_text last (drop i ns) ≡ field_text end last ++ []
  last-number e =
      ap₂ (λ (k : ℕ) (l : List ℕ). numbers_text last (drop k l)) (sym e) split
      ∙ ap (numbers_text last) (drop-append_seam front (end ∷ []))
      ∙ sym (append-nil (field_text end last))

-- a field with the byte that ends it, and what follows
pub field-piece : (field : List ℕ) (stop : ℕ) (more : List ℕ) → field ++ (stop ∷ more) ≡ (field ++ (stop ∷ [])) ++ more
field-piece field stop more = sym (append_assoc field (stop ∷ []) more)

-- three numbers at the front of a line, and what follows
pub three-pieces : (a b c : ℕ) (more : List ℕ) → decimal a ++ (space ∷ (decimal b ++ (space ∷ (decimal c ++ (space ∷ more))))) ≡ numbers_text space (a ∷ b ∷ c ∷ []) ++ more
three-pieces a b c more = simp append_assoc
