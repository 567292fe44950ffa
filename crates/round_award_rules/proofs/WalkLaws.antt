-- Laws about claims that take one after another: no claim takes more than its MW, and no path sells more than it has.
use mathlib.Core.Path.{◌≡◌}
use mathlib.Core.List.{List, [], ◌∷◌}
use Prim.Native.Nat.{ℕ, ◌+◌, ◌≤◌}
use native.Mathlib.Omega.{arith}
use native.Mathlib.Nat.{min-le_left, min-le_right}
use lib.ListN.{get_or}
use Rattle.round_award_rules.specs.Awards.{Claim, taken_of, left_after, walk, sold_on}
use Rattle.round_award_rules.specs.Rivals.{Each}
use Rattle.round_award_rules.proofs.Claims.{EachAward}
use Rattle.round_award_rules.proofs.LeftLaws.{less-at}

-- what is left of each path when all claims have taken
abbrev pub left_at_end : List ℕ → List Claim → List ℕ
left_at_end left [] = left
left_at_end left (l ∷ ls) = left_at_end (left_after left l) ls

-- what a path sells, with what is left of it at the end, is what it had
pub sold-and-left : (path : ℕ) (left : List ℕ) (claims : List Claim) → sold_on path (walk left claims) + get_or (left_at_end left claims) path 0 ≡ get_or left path 0
sold-and-left path left [] = omega arith
sold-and-left path left (l ∷ ls) =
    omega (
      arith,
      sold-and-left path (left_after left l) ls,
      less-at left l.path (taken_of left l) path (min-le_right l.quantity (get_or left l.path 0)),
    )

-- no path sells more than it has
pub sold-within : (path : ℕ) (left : List ℕ) (claims : List Claim) → sold_on path (walk left claims) ≤ get_or left path 0
sold-within path left claims = omega (arith, sold-and-left path left claims)

-- no claim takes more than its MW
pub taken-within : (left : List ℕ) (claims : List Claim) → EachAward (λ a. a.taken ≤ a.claim.quantity) (walk left claims)
taken-within left [] = tt
taken-within left (l ∷ ls) = (min-le_left l.quantity (get_or left l.path 0), taken-within (left_after left l) ls)

-- what holds of each claim holds of the claim of each award
pub each-walk : (P : Claim → Type 0) (left : List ℕ) (claims : List Claim) → Each P claims → EachAward (λ a. P a.claim) (walk left claims)
each-walk P left [] h = tt
each-walk P left (l ∷ ls) h = (h.0, each-walk P (left_after left l) ls h.1)
