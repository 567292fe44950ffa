-- Laws about clearing prices, and what bids are charged.
use mathlib.Core.Path.{◌≡◌, refl, ◌∙◌, ap, ap₂}
use mathlib.Core.Bool.{Bool, true, false, cond, ◌&&◌}
use mathlib.Core.List.{List, [], ◌∷◌}
use Prim.Native.Nat.{ℕ, ◌+◌, ◌*◌, ◌≤◌, ◌<◌, min}
use native.Mathlib.Omega.{arith}
use native.Mathlib.Nat.{mul-zero, mul-add, mul-le-mul_right}
use lib.Dec.{eqb, ltb}
use borrow.Author.Tests.{eq-eqb, eqb-true, eqb-false, lt-ltb, ltb-true, ltb-false}
use Rattle.round_award_rules.specs.Awards.{Award, sum_of, won_by, sold_on, lower, price_on}
use Rattle.round_award_rules.proofs.Claims.{EachAward, award-map}

-- ---- The lower of two prices

-- the lower of a price above 0 and any other is above 0, and at most that price
lower-left : (p q : ℕ) → 0 < p → (0 < lower p q) × (lower p q ≤ p)
lower-left p q = go (eqb p 0) (eqb q 0) refl refl
  where
    go : (s t : Bool) → eqb p 0 ≡ s → eqb q 0 ≡ t → 0 < p → (0 < cond s q (cond t p (min p q))) × (cond s q (cond t p (min p q)) ≤ p)
    go true t x y h =
        let no : p ≡ 0 = eqb-true p 0 x in
        (omega arith, omega arith)
    go false true x y h = (h, omega arith)
    go false false x y h =
        let some : q ≡ 0 → ⊥ = eqb-false q 0 y in
        (omega arith, omega arith)

lower-right : (p q : ℕ) → 0 < q → (0 < lower p q) × (lower p q ≤ q)
lower-right p q = go (eqb p 0) (eqb q 0) refl refl
  where
    go : (s t : Bool) → eqb p 0 ≡ s → eqb q 0 ≡ t → 0 < q → (0 < cond s q (cond t p (min p q))) × (cond s q (cond t p (min p q)) ≤ q)
    go true t x y h = (h, omega arith)
    go false true x y h =
        let no : q ≡ 0 = eqb-true q 0 y in
        (omega arith, omega arith)
    go false false x y h =
        let some : p ≡ 0 → ⊥ = eqb-false p 0 x in
        (omega arith, omega arith)

-- ---- The clearing price of a path

-- an award took some of a path
abbrev pub Took : ℕ → Award → Type 0
Took path a = (a.claim.path ≡ path) × (0 < a.taken)

-- its price, if it did
abbrev took_price : ℕ → Award → ℕ
took_price path a = cond (eqb a.claim.path path && ltb 0 a.taken) a.claim.price 0

-- rule 7.10: no claim that took any MW of the path has a lower price
pub price-lowest :
    (path : ℕ) (awards : List Award) → EachAward (λ a. 1 ≤ a.claim.price) awards
    → EachAward (λ a. Took path a → (0 < price_on path awards) × (price_on path awards ≤ a.claim.price)) awards
price-lowest path [] h = tt
price-lowest path (a ∷ awards) h = (
  here,
  award-map {P =
      λ b. Took path b → (0 < price_on path awards) × (price_on path awards ≤ b.claim.price)} {Q = λ b. Took path b
      → (0 < price_on path (a ∷ awards)) × (price_on path (a ∷ awards) ≤ b.claim.price)} (λ b below took. after b.claim.price (below took)) awards (price-lowest path awards h.1),
)
  where
    here : Took path a → (0 < price_on path (a ∷ awards)) × (price_on path (a ∷ awards) ≤ a.claim.price)
    here took =
        let is : took_price path a ≡ a.claim.price = ap₂ (λ (s t : Bool). cond (s && t) a.claim.price 0) (eq-eqb a.claim.path path took.0) (lt-ltb 0 a.taken took.1) in
        let low = lower-left (took_price path a) (price_on path awards) (omega (arith, is, h.0)) in
        (low.0, omega (arith, low.1, is))

    after : (price : ℕ) → (0 < price_on path awards) × (price_on path awards ≤ price) → (0 < price_on path (a ∷ awards)) × (price_on path (a ∷ awards) ≤ price)
    after price k =
        let low = lower-right (took_price path a) (price_on path awards) k.0 in
        (low.0, omega (arith, low.1, k.1))

-- rule 7.10: where nothing was sold there is no price
pub none-sold : (path : ℕ) (awards : List Award) → sold_on path awards ≡ 0 → price_on path awards ≡ 0
none-sold path [] h = refl
none-sold path (a ∷ awards) h =
    go (eqb a.claim.path path) (ltb 0 a.taken) refl h (none-sold path awards (omega arith))
  where
    go : (s t : Bool) → ltb 0 a.taken ≡ t → cond s a.taken 0 + sold_on path awards ≡ 0 → price_on path awards ≡ 0 → lower (cond (s && t) a.claim.price 0) (price_on path awards) ≡ 0
    go true true e k rest = absurd (let no : ⊥ = omega (arith, ltb-true 0 a.taken e) in no)
    go true false e k rest = rest
    go false t e k rest = rest

-- where something was sold there is one
pub some-sold : (path : ℕ) (awards : List Award) → EachAward (λ a. 1 ≤ a.claim.price) awards → 0 < sold_on path awards → 0 < price_on path awards
some-sold path [] h sold = sold
some-sold path (a ∷ awards) h sold =
    go (eqb a.claim.path path) (ltb 0 a.taken) refl sold (λ k. some-sold path awards h.1 k)
  where
    go :
        (s t : Bool) → ltb 0 a.taken ≡ t → 0 < cond s a.taken 0 + sold_on path awards → (0 < sold_on path awards → 0 < price_on path awards)
        → 0 < lower (cond (s && t) a.claim.price 0) (price_on path awards)
    go true true e k rest = (lower-left a.claim.price (price_on path awards) h.0).0
    go true false e k rest = rest (omega (arith, ltb-false 0 a.taken e))
    go false t e k rest = rest (omega arith)

-- ---- Charges

-- the bid value of what a bid won, claim by claim
abbrev pub won_value : ℕ → List Award → ℕ
won_value bid awards = sum_of (λ (a : Award). cond (eqb a.claim.bid bid) (a.claim.price * a.taken) 0) awards

-- a price that is at most that of each claim with MW of a path, times the MW of a bid on that path, is at most their bid value
won-at-least :
    (p bid path : ℕ) (awards : List Award) → EachAward (λ a. a.claim.bid ≡ bid → a.claim.path ≡ path) awards → EachAward (λ a. Took path a → p ≤ a.claim.price) awards
    → p * won_by bid awards ≤ won_value bid awards
won-at-least p bid path [] on h = let none : p * 0 ≤ 0 = omega (arith, mul-zero p) in none
won-at-least p bid path (a ∷ awards) on h =
    omega (
      arith,
      one (eqb a.claim.bid bid) (ltb 0 a.taken) refl refl,
      mul-add p (cond (eqb a.claim.bid bid) a.taken 0) (won_by bid awards),
      won-at-least p bid path awards on.1 h.1,
    )
  where
    one : (s t : Bool) → eqb a.claim.bid bid ≡ s → ltb 0 a.taken ≡ t → p * cond s a.taken 0 ≤ cond s (a.claim.price * a.taken) 0
    one true true x y =
        mul-le-mul_right a.taken (h.0 (on.0 (eqb-true a.claim.bid bid x), ltb-true 0 a.taken y))
    one true false x y =
        let none : a.taken ≡ 0 = omega (arith, ltb-false 0 a.taken y) in
        let zeroth : p * a.taken ≡ 0 = ap (p *◌) none ∙ mul-zero p in
        omega arith
    one false t x y = omega (arith, mul-zero p)

-- so no bid is charged more than the bid value of what it won
pub charge-at-most :
    (bid path : ℕ) (awards : List Award) → EachAward (λ a. 1 ≤ a.claim.price) awards → EachAward (λ a. a.claim.bid ≡ bid → a.claim.path ≡ path) awards
    → price_on path awards * won_by bid awards ≤ won_value bid awards
charge-at-most bid path awards some on =
    won-at-least (price_on path awards) bid path awards on
    (award-map {P = λ a. Took path a → (0 < price_on path awards) × (price_on path awards ≤ a.claim.price)} {Q = λ a. Took path a → price_on path awards ≤ a.claim.price} (λ a low took. (low took).1)
    awards (price-lowest path awards some))
