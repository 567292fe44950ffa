-- Laws about the lines of a sheet that are read at a place of a text.
use mathlib.Core.Path.{◌≡◌, refl, sym, ◌∙◌, ap, ap₂}
use mathlib.Core.Bool.{Bool, true, false, cond, ◌&&◌, ◌||◌}
use mathlib.Core.List.{List}
use Prim.Native.Nat.{ℕ, ◌+◌, ◌≤◌}
use native.Mathlib.Omega.{arith}
use lib.Dec.{leb, ltb, eqb}
use lib.ListN.{length, get_or, drop, get_or-eq_default}
use lib.Seq.{drop-drop, get_or-drop}
use borrow.Author.Tests.{ltb-true, leb-true, leb-false, eqb-true, eq-eqb}
use Rattle.market.proofs.Tests.{right-true}
use Rattle.market.specs.Limits.{bidder_limit}
use Rattle.market.specs.declared.book.Direction.TheVariants.{Export, Import}
use Rattle.text_fields.specs.Fields.{space, newline, word_top, amount_top, field_at, both, numbers_used}
use Rattle.text_fields.specs.declared.Field.{Field}
use Rattle.sheet_lines.specs.Lines.{word_then, direction_byte, is_direction, route_used, path_used, line_at}
use Rattle.sheet_lines.specs.declared.part.Part.{Part}
use Rattle.sheet_lines.specs.declared.part.Part.TheVariants.{Bidders, Paths, Bids}

-- ---- One of two letters, and the space after it

module _ (bytes : List ℕ) (at one other : ℕ) where
  abbrev letter : ℕ
  letter = get_or bytes at 0

  abbrev spaced_there : Bool
  spaced_there = eqb (get_or bytes (at + 1) 0) space

  abbrev pub letter_here : Bool
  letter_here = (eqb letter one || eqb letter other) && spaced_there

  pub letter-fits : letter_here ≡ true → at + 2 ≤ length bytes
  letter-fits e =
      let byte : get_or bytes (at + 1) 0 ≡ space = eqb-true (get_or bytes (at + 1) 0) space (right-true (eqb letter one || eqb letter other) spaced_there e) in
      go (leb (length bytes) (at + 1)) refl byte
    where
      go : (t : Bool) → leb (length bytes) (at + 1) ≡ t → get_or bytes (at + 1) 0 ≡ space → at + 2 ≤ length bytes
      go true past byte =
          let over : length bytes ≤ at + 1 = leb-true (length bytes) (at + 1) past in
          absurd (let none : ⊥ = omega (arith, get_or-eq_default bytes 0 over) in none)
      go false past byte = omega (arith, leb-false (length bytes) (at + 1) past)

-- ---- A path's line

module _ (bytes : List ℕ) (at : ℕ) where
  abbrev directed : Bool
  directed = letter_here bytes at (direction_byte Export) (direction_byte Import)

  abbrev route : ℕ
  route = numbers_used word_top newline 5 (drop 2 (drop at bytes))

  route-decides : (t : Bool) → directed ≡ t → route_used (drop at bytes) ≡ word_then t 2 route
  route-decides t e =
      let first : get_or (drop at bytes) 0 0 ≡ get_or bytes at 0 = get_or-drop at bytes 0 0 ∙ ap (λ (k : ℕ). get_or bytes k 0) (let same : at + 0 ≡ at = omega arith in same) in
      ap₂ (λ (c : ℕ) (d : ℕ). word_then (is_direction c && eqb d space) 2 route) first (get_or-drop at bytes 1 0)
      ∙ ap (λ (t : Bool). word_then t 2 route) e

  pub route-here : directed ≡ true → (n : ℕ) → n ≡ numbers_used word_top newline 5 (drop (at + 2) bytes) → both 2 n ≡ route_used (drop at bytes)
  route-here e n is =
      ap (both 2) (is ∙ ap (numbers_used word_top newline 5) (sym (drop-drop 2 at bytes))) ∙ sym (route-decides true e)

module _ (bytes : List ℕ) (at number : ℕ) (f : Field) (is : f ≡ field_at word_top space (drop at bytes)) where
  abbrev routed : ℕ
  routed = both f.used (route_used (drop f.used (drop at bytes)))

  path-decides : (t : Bool) → eqb f.value number ≡ t → path_used number (drop at bytes) ≡ cond t routed 0
  path-decides t e =
      ap (λ (g : Field). cond (eqb g.value number) (both g.used (route_used (drop g.used (drop at bytes)))) 0) (sym is)
      ∙ ap (λ (t : Bool). cond t routed 0) e

  pub path-here : f.value ≡ number → (n : ℕ) → n ≡ route_used (drop (at + f.used) bytes) → both f.used n ≡ path_used number (drop at bytes)
  path-here same n e =
      ap (both f.used) (e ∙ ap route_used (sym (drop-drop f.used at bytes)))
      ∙ sym (path-decides true (eq-eqb f.value number same))

-- ---- A line of a section

-- a line that is not faulty asks of the next one at most `bidder_limit` more than was asked of it
pub line-next : (part : Part) (state : ℕ) (text : List ℕ) → 1 ≤ (line_at part state text).used → (line_at part state text).next ≤ state + bidder_limit
line-next Bidders state text some = go (low && high) refl some
  where
    v : ℕ
    v = (field_at amount_top space text).value

    low : Bool
    low = leb state v

    high : Bool
    high = ltb v bidder_limit

    go : (t : Bool) → (low && high) ≡ t → 1 ≤ cond t (numbers_used amount_top newline 3 text) 0 → v + 1 ≤ state + bidder_limit
    go true e used = omega (arith, ltb-true v bidder_limit (right-true low high e))
    go false e used = absurd (let none : ⊥ = omega arith in none)
line-next Paths state text some = omega arith
line-next Bids state text some = omega arith
