-- Laws about a line that is read by the first form whose word it begins with.
use mathlib.Core.Path.{◌≡◌, refl, sym, ◌∙◌, ap, subst}
use mathlib.Core.Bool.{Bool, true, cond}
use mathlib.Core.List.{List, [], ◌∷◌}
use Prim.Native.Nat.{ℕ}
use lib.IntN.{ℤ}
use lib.ListN.{length, drop}
use Rattle.text_fields.specs.Fields.{starts_with}
use Rattle.std.specs.Prelude.{Option}
use Rattle.journal_call_line.specs.declared.CallLine.{CallLine}
use Rattle.journal_call_line.specs.CallLine.{Reading, ReadInto, Form, read_by}

-- the word of the first form, and what the text after it says
abbrev first_word : List Form → List ℕ
first_word [] = []
first_word (f ∷ fs) = f.word

abbrev first_read : List Form → List ℕ → Reading
first_read [] text = read_by [] text
first_read (f ∷ fs) text = f.read text

-- a line that is still to be read by these forms, and begins with the word of the first: the line has that form
pub form-read :
    (line : List ℕ) {r : Reading} (fs : List Form) → read_by fs line ≡ r → starts_with (first_word fs) line ≡ true
    → {text : List ℕ} → text ≡ drop (length (first_word fs)) line → first_read fs text ≡ r
form-read line fs so_far is e = ap (first_read fs) e ∙ go fs is ∙ so_far
  where
    go : (gs : List Form) → starts_with (first_word gs) line ≡ true → first_read gs (drop (length (first_word gs)) line) ≡ read_by gs line
    go [] h = refl
    go (g ∷ gs) h = ap (λ (x : Bool). cond x (g.read (drop (length g.word) line)) (read_by gs line)) (sym h)

-- what a reader leaves, by an equal reading
pub read_as :
    {r r' : Reading} {said : Option CallLine} {words words' : List ℕ} {prices prices' : List ℤ} → r ≡ r'
    → ReadInto r said words words' prices prices' → ReadInto r' said words words' prices prices'
read_as {said = said} {words = words} {words' = words'} {prices = prices} {prices' = prices'} e h =
    subst (λ (x : Reading). ReadInto x said words words' prices prices') e h
