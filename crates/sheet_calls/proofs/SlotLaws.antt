-- Slots that a loop fills from the front, as `routes`, `numbers` and `all_deposits` do, and how long the quantities of slots are.
use mathlib.Core.Path.{◌≡◌, refl, ◌∙◌, ap}
use mathlib.Core.Bool.{true}
use mathlib.Core.List.{List, [], ◌∷◌, ◌++◌, map}
use Prim.Native.Nat.{ℕ, ◌+◌, ◌*◌, ◌-◌, ◌≤◌, ◌<◌}
use native.Mathlib.Omega.{arith}
use lib.ListN.{length, get_or, set, replicate}
use borrow.Author.Tests.{ltb-true}
use Rattle.market.proofs.Every.{every-within}
use Rattle.market.proofs.Filled.{filled, fill-next, all-filled}
use Rattle.market.specs.Books.{every}
use Rattle.market.specs.Limits.{bidder_limit, quantity_words}
use Rattle.sheet_form.specs.declared.rows.BidderLine.{BidderLine}
use Rattle.sheet_form.specs.declared.rows.PathLine.{PathLine}
use Rattle.sheet_calls.specs.Calls.{quantities_of}
use Rattle.sheet_calls.specs.CallSlots.{is_listed}

-- ---- One image in each slot

-- the images of the first `i` elements, and a blank in each place after them
pub record FilledTo {A B : Type 0} (f : A → B) (xs : List A) (n : ℕ) (blank : B) (out : List B) (i : ℕ) : Type 0 where
  pub within : i ≤ n
  pub is : out ≡ filled f xs n blank i

module _ {A B : Type 0} (f : A → B) (xs : List A) (n : ℕ) (blank : B) where
  pub none_filled : (out : List B) → out ≡ replicate n blank → FilledTo f xs n blank out 0
  none_filled out blanks =
      record { within = omega arith; is = blanks ∙ ap (λ (m : ℕ). replicate m blank) (let e : n ≡ n - 0 = omega arith in e) }

  module _ (out : List B) (i : ℕ) (s : FilledTo f xs n blank out i) (long : length xs ≡ n) where
    pub one-filled : (d : A) (y : B) → i < n → y ≡ f (get_or xs i d) → FilledTo f xs n blank (set out i y) (i + 1)
    one-filled d y below image =
        record {
          within = omega arith;
          is =
              ap (λ (l : List B). set l i y) s.is
              ∙ ap (set (filled f xs n blank i) i) image
              ∙ fill-next f xs n blank i d below (omega (arith, long));
        }

    pub every-filled : n ≤ i → out ≡ map f xs
    every-filled end =
        s.is
        ∙ ap (filled f xs n blank) (let e : i ≡ n = omega (arith, s.within) in e)
        ∙ all-filled f xs n blank long

-- each line is that of a bidder that a book has
pub line-listed : (lines : List BidderLine) (i : ℕ) (d : BidderLine) → i < length lines → every is_listed lines ≡ true → (get_or lines i d).bidder < bidder_limit
line-listed lines i d inside listed = ltb-true (get_or lines i d).bidder bidder_limit (every-within is_listed lines i d inside listed)

-- ---- Four words in each slot

pub quantities-length : (ps : List PathLine) → length (quantities_of ps) ≡ length ps * quantity_words
quantities-length [] = refl
quantities-length (p ∷ ps) =
    let more = quantities-length ps in
    omega (arith, more)

pub quantities-append : (ps qs : List PathLine) → quantities_of (ps ++ qs) ≡ quantities_of ps ++ quantities_of qs
quantities-append [] qs = refl
quantities-append (p ∷ ps) qs =
    ap (λ (l : List ℕ). p.base ∷ p.upper ∷ p.first ∷ p.second ∷ l) (quantities-append ps qs)
