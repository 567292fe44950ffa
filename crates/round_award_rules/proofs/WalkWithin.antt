-- Claims that take one after another within two limits: what is left of each path, and what is left along each direction, which is a group of paths.
use mathlib.Core.Path.{◌≡◌, refl, ap}
use mathlib.Core.Bool.{Bool, true, false, cond}
use mathlib.Core.List.{List, [], ◌∷◌}
use Prim.Native.Nat.{ℕ, zero, suc, ◌+◌, ◌-◌, ◌≤◌, min}
use native.Mathlib.Omega.{arith}
use native.Mathlib.Nat.{min-le_left}
use lib.Dec.{eqb}
use lib.ListN.{get_or, take}
use borrow.Author.Tests.{eq-eqb, eqb-true}
use Rattle.round_award_rules.specs.Awards.{Claim, Award, taken_of, walk, sum_of, sold_on}
use Rattle.round_award_rules.specs.Rivals.{Each, Rival, given_on}
use Rattle.round_award_rules.proofs.Claims.{EachAward}
use Rattle.round_award_rules.proofs.LeftLaws.{less, less-at}

-- ---- The paths of a direction; `way` gives the direction of a path

-- the directions of the paths after the first
abbrev after_first : (ℕ → ℕ) → ℕ → ℕ
after_first way path = way (suc path)

-- what is left of the paths of a direction, together
abbrev pub left_along : (ℕ → ℕ) → ℕ → List ℕ → ℕ
left_along way d [] = 0
left_along way d (n ∷ ns) = cond (eqb (way 0) d) n 0 + left_along (after_first way) d ns

-- it falls by what is taken of a path, if the path is of this direction
pub along-less :
    (way : ℕ → ℕ) (d : ℕ) (left : List ℕ) (path taken : ℕ) → taken ≤ get_or left path 0
    → left_along way d (less left path taken) + cond (eqb (way path) d) taken 0 ≡ left_along way d left
along-less way d [] path taken within = go (eqb (way path) d)
  where
    go : (t : Bool) → 0 + cond t taken 0 ≡ 0
    go true = omega arith
    go false = omega arith
along-less way d (n ∷ left) zero taken within = go (eqb (way 0) d)
  where
    go : (t : Bool) → cond t (n - taken) 0 + left_along (after_first way) d left + cond t taken 0 ≡ cond t n 0 + left_along (after_first way) d left
    go true = omega arith
    go false = omega arith
along-less way d (n ∷ left) (suc path) taken within = omega (arith, along-less (after_first way) d left path taken within)

-- where one list has at most as much as another of each path of a direction, it has at most as much of them together
pub along-most :
    (way : ℕ → ℕ) (d : ℕ) (left more : List ℕ) → ((path : ℕ) → way path ≡ d → get_or left path 0 ≤ get_or more path 0) → left_along way d left ≤ left_along way d more
along-most way d [] more h = omega arith
along-most way d (n ∷ left) [] h =
    omega (arith, one (eqb (way 0) d) refl, along-most (after_first way) d left [] (λ path. h (suc path)))
  where
    one : (t : Bool) → eqb (way 0) d ≡ t → cond t n 0 ≤ 0
    one true e = h 0 (eqb-true (way 0) d e)
    one false e = omega arith
along-most way d (n ∷ left) (m ∷ more) h =
    omega (arith, one (eqb (way 0) d) refl, along-most (after_first way) d left more (λ path. h (suc path)))
  where
    one : (t : Bool) → eqb (way 0) d ≡ t → cond t n 0 ≤ cond t m 0
    one true e = h 0 (eqb-true (way 0) d e)
    one false e = omega arith

-- each path has at most what the paths of its direction have together
pub one_along : (way : ℕ → ℕ) (left : List ℕ) (path : ℕ) → get_or left path 0 ≤ left_along way (way path) left
one_along way [] path = omega arith
one_along way (n ∷ left) zero =
    omega (arith, ap (λ (t : Bool). cond t n 0) (eq-eqb (way 0) (way 0) refl))
one_along way (n ∷ left) (suc path) = omega (arith, one_along (after_first way) left path)

module _ (way : ℕ → ℕ) where
  -- ---- The walk

  -- what a claim takes; `left` has what is left of each path, and `along` what is left along each direction
  abbrev pub taken_within : List ℕ → List ℕ → Claim → ℕ
  taken_within left along l = min l.quantity (min (get_or left l.path 0) (get_or along (way l.path) 0))

  -- what is left after it, of each path and along each direction
  abbrev pub paths_after : List ℕ → List ℕ → Claim → List ℕ
  paths_after left along l = less left l.path (taken_within left along l)

  abbrev pub ways_after : List ℕ → List ℕ → Claim → List ℕ
  ways_after left along l = less along (way l.path) (taken_within left along l)

  -- the awards of claims that take one after another
  abbrev pub walk_within : List ℕ → List ℕ → List Claim → List Award
  walk_within left along [] = []
  walk_within left along (l ∷ ls) =
      record { claim = l; taken = taken_within left along l }
      ∷ walk_within (paths_after left along l) (ways_after left along l) ls

  -- what awards come to along a direction
  abbrev pub sold_along : ℕ → List Award → ℕ
  sold_along d awards = sum_of (λ (a : Award). cond (eqb (way a.claim.path) d) a.taken 0) awards

  -- what a rival award gives along a direction
  abbrev pub given_along : Rival → ℕ → List Claim → ℕ
  given_along gives d claims = sum_of (λ (l : Claim). cond (eqb (way l.path) d) (gives l.place) 0) claims

  -- a legal rival award: no claim has more than its MW, no path more than is offered of it, and no direction more than its quantity
  pub record LegalWithin (offered quantities : List ℕ) (claims : List Claim) (gives : Rival) : Type 0 where
    pub own : Each (λ l. gives l.place ≤ l.quantity) claims
    pub shared : (path : ℕ) → given_on gives path claims ≤ get_or offered path 0
    pub along : (d : ℕ) → given_along gives d claims ≤ get_or quantities d 0

  -- ---- What a claim takes is there

  module _ (left along : List ℕ) (l : Claim) where
    pub of-path : taken_within left along l ≤ get_or left l.path 0
    of-path = omega arith

    pub of-way : taken_within left along l ≤ get_or along (way l.path) 0
    of-way = omega arith

    -- so each path, each direction, and the paths of each direction have as much less as was taken of them
    pub path-less : (path : ℕ) → cond (eqb l.path path) (taken_within left along l) 0 + get_or (paths_after left along l) path 0 ≡ get_or left path 0
    path-less path = less-at left l.path (taken_within left along l) path of-path

    pub way-less : (d : ℕ) → cond (eqb (way l.path) d) (taken_within left along l) 0 + get_or (ways_after left along l) d 0 ≡ get_or along d 0
    way-less d = less-at along (way l.path) (taken_within left along l) d of-way

    pub paths-less : (d : ℕ) → left_along way d (paths_after left along l) + cond (eqb (way l.path) d) (taken_within left along l) 0 ≡ left_along way d left
    paths-less d = along-less way d left l.path (taken_within left along l) of-path

  -- ---- What all claims take

  -- no path sells more than it has
  pub path-within : (path : ℕ) (left along : List ℕ) (claims : List Claim) → sold_on path (walk_within left along claims) ≤ get_or left path 0
  path-within path left along [] = omega arith
  path-within path left along (l ∷ ls) =
      omega (arith, path-less left along l path, path-within path (paths_after left along l) (ways_after left along l) ls)

  -- no direction sells more than it has
  pub way-within : (d : ℕ) (left along : List ℕ) (claims : List Claim) → sold_along d (walk_within left along claims) ≤ get_or along d 0
  way-within d left along [] = omega arith
  way-within d left along (l ∷ ls) =
      omega (arith, way-less left along l d, way-within d (paths_after left along l) (ways_after left along l) ls)

  -- what is sold of a path is sold along its direction
  pub sold-along : (path : ℕ) (awards : List Award) → sold_on path awards ≤ sold_along (way path) awards
  sold-along path [] = omega arith
  sold-along path (a ∷ awards) = omega (arith, one (eqb a.claim.path path) refl, sold-along path awards)
    where
      one : (t : Bool) → eqb a.claim.path path ≡ t → cond t a.taken 0 ≤ cond (eqb (way a.claim.path) (way path)) a.taken 0
      one true e =
          omega (arith, ap (λ (t : Bool). cond t a.taken 0) (eq-eqb (way a.claim.path) (way path) (ap way (eqb-true a.claim.path path e))))
      one false e = omega arith

  -- no claim takes more than its MW
  pub own-within : (left along : List ℕ) (claims : List Claim) → EachAward (λ a. a.taken ≤ a.claim.quantity) (walk_within left along claims)
  own-within left along [] = tt
  own-within left along (l ∷ ls) =
      (min-le_left l.quantity (min (get_or left l.path 0) (get_or along (way l.path) 0)), own-within (paths_after left along l) (ways_after left along l) ls)

  -- what holds of each claim holds of the claim of each award
  pub each_within : (P : Claim → Type 0) (left along : List ℕ) (claims : List Claim) → Each P claims → EachAward (λ a. P a.claim) (walk_within left along claims)
  each_within P left along [] h = tt
  each_within P left along (l ∷ ls) h = (h.0, each_within P (paths_after left along l) (ways_after left along l) ls h.1)

  -- a sum over the claims of the awards is the sum over the claims
  pub sum-within : (f : Claim → ℕ) (left along : List ℕ) (claims : List Claim) → sum_of (λ a. f a.claim) (walk_within left along claims) ≡ sum_of f claims
  sum-within f left along [] = refl
  sum-within f left along (l ∷ ls) = ap (f l +◌) (sum-within f (paths_after left along l) (ways_after left along l) ls)

  -- the first claims take what they would take with no claims after them
  pub take_within : (k : ℕ) (left along : List ℕ) (claims : List Claim) → take k (walk_within left along claims) ≡ walk_within left along (take k claims)
  take_within zero left along claims = refl
  take_within (suc k) left along [] = refl
  take_within (suc k) left along (l ∷ ls) =
      ap (record { claim = l; taken = taken_within left along l } ∷◌) (take_within k (paths_after left along l) (ways_after left along l) ls)

  -- ---- Directions that limit nothing

  -- where each direction has at least what its paths have together, the claims take what they take within the paths alone
  pub paths-alone : (left along : List ℕ) (claims : List Claim) → ((d : ℕ) → left_along way d left ≤ get_or along d 0) → walk_within left along claims ≡ walk left claims
  paths-alone left along [] room = refl
  paths-alone left along (l ∷ ls) room =
      let same : taken_within left along l ≡ taken_of left l = omega (arith, one_along way left l.path, room (way l.path)) in
      let next =
      paths-alone (paths_after left along l) (ways_after left along l) ls (λ d. omega (arith, room d, way-less left along l d, paths-less left along l d)) in
      cc
