-- Laws about the MW and the bid value that a bid won: each of its laminations is filled before the next.
use mathlib.Core.Path.{◌≡◌, refl, ◌∙◌, ap, ap₂}
use mathlib.Core.Bool.{Bool, true, false, cond}
use mathlib.Core.List.{List, [], ◌∷◌}
use Prim.Native.Nat.{ℕ, ◌+◌, ◌*◌, ◌-◌, ◌≤◌, min}
use native.Mathlib.Omega.{arith}
use native.Mathlib.Nat.{mul-zero}
use lib.Dec.{eqb}
use lib.ListN.{get_or}
use borrow.Author.Tests.{eq-eqb, eqb-true}
use Rattle.round_bids.specs.declared.Lamination.{Lamination}
use Rattle.market.specs.Limits.{pair_words}
use Rattle.round_award_rules.specs.Awards.{Claim, Award, claims_in, taken_of, left_after, walk, sum_of, won_by, sold_on}
use Rattle.round_award_rules.specs.Rivals.{Each, filled_value}
use Rattle.round_award_rules.proofs.Claims.{EachAward}
use Rattle.round_award_rules.proofs.LeftLaws.{less-there}
use Rattle.round_award_rules.proofs.WalkLaws.{sold-within, each-walk}
use Rattle.round_award_rules.proofs.PriceLaws.{won_value}
use Rattle.round_award_rules.proofs.BidClaims.{of_bid}

-- what a bid won was sold of its path
pub won-sold : (bid path : ℕ) (awards : List Award) → EachAward (λ a. a.claim.bid ≡ bid → a.claim.path ≡ path) awards → won_by bid awards ≤ sold_on path awards
won-sold bid path [] on = omega arith
won-sold bid path (a ∷ awards) on =
    omega (arith, one (eqb a.claim.bid bid) refl, won-sold bid path awards on.1)
  where
    one : (t : Bool) → eqb a.claim.bid bid ≡ t → cond t a.taken 0 ≤ cond (eqb a.claim.path path) a.taken 0
    one true e =
        let there = ap (λ (t : Bool). cond t a.taken 0) (eq-eqb a.claim.path path (on.0 (eqb-true a.claim.bid bid e))) in
        omega (arith, there)
    one false e = omega arith

-- and is at most the MW of its laminations
pub won-within : (bid : ℕ) (left : List ℕ) (claims : List Claim) → won_by bid (walk left claims) ≤ sum_of (λ (l : Claim). l.quantity) (of_bid bid claims)
won-within bid left [] = omega arith
won-within bid left (l ∷ ls) = go (eqb l.bid bid) (won-within bid (left_after left l) ls)
  where
    go :
        (t :
        Bool) → won_by bid (walk (left_after left l) ls) ≤ sum_of (λ (m : Claim). m.quantity) (of_bid bid ls)
        → cond t (taken_of left l) 0 + won_by bid (walk (left_after left l) ls) ≤ sum_of (λ (m : Claim). m.quantity) (cond t (l ∷ of_bid bid ls) (of_bid bid ls))
    go true h = omega arith
    go false h = omega arith

-- the bid value of claims that are filled in order
abbrev pub filled_claims : ℕ → List Claim → ℕ
filled_claims won [] = 0
filled_claims won (l ∷ ls) =
    l.price * min l.quantity won + filled_claims (won - min l.quantity won) ls

-- for the claims of a bid it is the value of its laminations, filled in order
pub filled_in : (bid path place won : ℕ) (ls : List Lamination) → filled_claims won (claims_in bid path place ls) ≡ filled_value won ls
filled_in bid path place won [] = refl
filled_in bid path place won (l ∷ ls) =
    ap (l.price.0 * min l.quantity.0 won +◌) (filled_in bid path (place + pair_words) (won - min l.quantity.0 won) ls)

-- with nothing won the filled value is 0
pub filled_none : (won : ℕ) (ls : List Lamination) → won ≡ 0 → filled_value won ls ≡ 0
filled_none won [] h = refl
filled_none won (l ∷ ls) h =
    let none : min l.quantity.0 won ≡ 0 = omega arith in
    omega (
      arith,
      ap (l.price.0 *◌) none ∙ mul-zero l.price.0,
      filled_none (won - min l.quantity.0 won) ls (omega arith),
    )

-- What a bid won, claim by claim, is what filling its claims in order gives: a claim that takes less than its MW leaves nothing of its
-- path, so the bid's later claims take nothing.
pub fills :
    (bid path : ℕ) (left : List ℕ) (claims : List Claim) → Each (λ l. l.bid ≡ bid → l.path ≡ path) claims
    → won_value bid (walk left claims) ≡ filled_claims (won_by bid (walk left claims)) (of_bid bid claims)
fills bid path left [] on = refl
fills bid path left (l ∷ ls) on =
    go (eqb l.bid bid) refl (won_by bid (walk (left_after left l) ls)) (won_value bid (walk (left_after left l) ls)) later
    (fills bid path (left_after left l) ls on.1)
  where
    later : l.bid ≡ bid → won_by bid (walk (left_after left l) ls) ≤ get_or left l.path 0 - taken_of left l
    later is =
        let there = on.0 is in
        omega (
          arith,
          won-sold bid path (walk (left_after left l) ls) (each-walk (λ m. m.bid ≡ bid → m.path ≡ path) (left_after left l) ls on.1),
          sold-within path (left_after left l) ls,
          ap (λ (p : ℕ). get_or (left_after left l) p 0) there,
          less-there left l.path (taken_of left l),
        )

    go :
        (t :
        Bool) → eqb l.bid bid ≡ t → (won value : ℕ) → (l.bid ≡ bid → won ≤ get_or left l.path 0 - taken_of left l) → value ≡ filled_claims won (of_bid bid ls)
        → cond t (l.price * taken_of left l) 0 + value ≡ filled_claims (cond t (taken_of left l) 0 + won) (cond t (l ∷ of_bid bid ls) (of_bid bid ls))
    go true e won value most h =
        let within = most (eqb-true l.bid bid e) in
        let first : taken_of left l ≡ min l.quantity (taken_of left l + won) = omega (arith, within) in
        let rest : won ≡ taken_of left l + won - min l.quantity (taken_of left l + won) = omega (arith, within) in
        ap (l.price * taken_of left l +◌) h
        ∙ ap₂ (λ (x y : ℕ). l.price * x + filled_claims y (of_bid bid ls)) first rest
    go false e won value most h =
        let same : 0 + value ≡ value = omega arith in
        let none : won ≡ 0 + won = omega arith in
        same ∙ h ∙ ap (λ (x : ℕ). filled_claims x (of_bid bid ls)) none
