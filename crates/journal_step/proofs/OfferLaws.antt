-- Laws about what a book's paths offer, in slots.
use mathlib.Core.Path.{◌≡◌, refl, sym, ◌∙◌, ap}
use mathlib.Core.Bool.{Bool, true, false, cond}
use mathlib.Core.List.{List, [], ◌∷◌, ◌++◌, map}
use Prim.Native.Nat.{ℕ, zero, suc, ◌-◌, ◌≤◌}
use native.Mathlib.Omega.{arith}
use lib.Dec.{ltb}
use lib.ListN.{length, take, replicate, length-map}
use lib.Seq.{take_all, length-take-le, take-append_seam}
use borrow.Author.Tests.{ltb-true, ltb-false}
use Rattle.market.proofs.Filled.{filled}
use Rattle.market.specs.Limits.{path_limit}
use Rattle.market.specs.declared.book.Path.{Path}
use Rattle.journal_step.specs.LineStep.{within_slots}
use Rattle.market.specs.Books.{offer_of}

-- the first `n` elements of a list, taken again by their count
take_counted : {X : Type 0} (n : ℕ) (l : List X) → take (length (take n l)) l ≡ take n l
take_counted zero l = refl
take_counted (suc n) [] = refl
take_counted (suc n) (x ∷ l) = ap (x ∷◌) (take_counted n l)

module _ (paths : List Path) (n : ℕ) (long : length paths ≡ path_limit) where
  pub slots-counted : within_slots n ≡ length (take n paths)
  slots-counted = go (ltb path_limit n) refl
    where
      go : (t : Bool) → ltb path_limit n ≡ t → cond t path_limit n ≡ length (take n paths)
      go true e = sym (ap length (take_all n paths (omega (arith, ltb-true path_limit n e))) ∙ long)
      go false e = sym (length-take-le n paths (omega (arith, ltb-false path_limit n e)))

  pub slots-few : within_slots n ≤ path_limit
  slots-few = go (ltb path_limit n) refl
    where
      go : (t : Bool) → ltb path_limit n ≡ t → cond t path_limit n ≤ path_limit
      go true e = omega arith
      go false e = omega (arith, ltb-false path_limit n e)

  -- the filled slots are the offers
  pub offers-filled : (count : ℕ) (slots : List ℕ) → count ≡ within_slots n → slots ≡ filled offer_of paths path_limit 0 count → take count slots ≡ map offer_of (take n paths)
  offers-filled count slots e s =
      let is : count ≡ length (take n paths) = e ∙ slots-counted in
      let front : take count paths ≡ take n paths = ap (λ (k : ℕ). take k paths) is ∙ take_counted n paths in
      let xs = map offer_of (take n paths) in
      let blanks : List ℕ = replicate (path_limit - count) 0 in
      ap (take count) (s ∙ ap (λ (l : List Path). map offer_of l ++ blanks) front)
      ∙ ap (λ (k : ℕ). take k (xs ++ blanks)) (is ∙ sym (length-map (take n paths) offer_of))
      ∙ take-append_seam xs blanks
