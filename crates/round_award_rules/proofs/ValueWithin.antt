-- The bid value of claims that take within the limits of paths and of directions: in order of falling prices it is at least that of any legal rival
-- award, and that of one bid is the value of filling each of its claims before the next.
use mathlib.Core.Path.{◌≡◌, refl, ◌∙◌, ap, ap₂}
use mathlib.Core.Bool.{Bool, true, false, cond}
use mathlib.Core.List.{List, [], ◌∷◌}
use Prim.Native.Nat.{ℕ, suc, ◌+◌, ◌*◌, ◌-◌, ◌≤◌, min}
use native.Mathlib.Omega.{arith}
use native.Mathlib.Nat.{zero-add, mul-le-mul_left}
use lib.Dec.{eqb}
use lib.ListN.{get_or, take}
use borrow.Author.Tests.{eqb-true}
use Rattle.round_award_rules.specs.Awards.{Claim, Award, sum_of, won_by}
use Rattle.round_award_rules.specs.Rivals.{Each, Rival, rival_value}
use Rattle.round_award_rules.proofs.LeftLaws.{less-there}
use Rattle.round_award_rules.proofs.OrderLaws.{FallingFrom}
use Rattle.round_award_rules.proofs.ValueLaws.{value_of}
use Rattle.round_award_rules.proofs.PriceLaws.{won_value}
use Rattle.round_award_rules.proofs.BidClaims.{of_bid}
use Rattle.round_award_rules.proofs.FillLaws.{won-sold, filled_claims}
use Rattle.round_award_rules.proofs.WalkWithin.{taken_within, paths_after, ways_after, walk_within, LegalWithin}
use Rattle.round_award_rules.proofs.WalkWithin.{path-within, way-within, sold-along, each_within, sum-within, take_within}
use Rattle.round_award_rules.proofs.MostWithin.{most-of-first}

-- ---- Two sums of MW under falling prices

-- prices that never rise along a list, from a price on
abbrev pub FallingBy : {A : Type 0} → (A → ℕ) → ℕ → List A → Type 0
FallingBy price top [] = Unit {0}
FallingBy price top (x ∷ xs) = (price x ≤ top) × FallingBy price (price x) xs

-- Each element of a list has a price and two numbers of MW, `more` and `fewer`; before the list stand `a` MW and `b` MW, at a price not below theirs.
-- Prices never rise. If the first elements, however many, have with `a` at least as many MW of `more` as they have with `b` of `fewer`, then so it is
-- with the values of all.
pub worth-most :
    {A :
    Type 0} (price more fewer : A → ℕ) (top a b : ℕ) (xs : List A) → FallingBy price top xs → ((k : ℕ) → b + sum_of fewer (take k xs) ≤ a + sum_of more (take k xs))
    → sum_of (λ x. price x * fewer x) xs + top * b ≤ sum_of (λ x. price x * more x) xs + top * a
worth-most price more fewer top a b [] falls most =
    let start : b ≤ a = omega (arith, most 0) in
    omega (arith, mul-le-mul_left top start)
worth-most price more fewer top a b (x ∷ xs) falls most =
    let start : b ≤ a = omega (arith, most 0) in
    let above = top - price x in
    let top-is : top ≡ price x + above = omega (arith, falls.0) in
    omega (
      arith,
      ap (◌* a) top-is,
      ap (◌* b) top-is,
      mul-le-mul_left above start,
      worth-most price more fewer (price x) (a + more x) (b + fewer x) xs falls.1 (λ k. omega (arith, most (suc k))),
    )

-- ---- Claims that are filled in order

-- a claim takes what it can of some room, and its bid's later claims together at most what it leaves: then filling begins with what it took
fill-next :
    (l : Claim) (ls : List Claim) (room won : ℕ) → won ≤ room - min l.quantity room
    → l.price * min l.quantity room + filled_claims won ls ≡ filled_claims (min l.quantity room + won) (l ∷ ls)
fill-next l ls room won within =
    let first : min l.quantity room ≡ min l.quantity (min l.quantity room + won) = omega arith in
    let rest : won ≡ min l.quantity room + won - min l.quantity (min l.quantity room + won) = omega arith in
    ap₂ (λ (x y : ℕ). l.price * x + filled_claims y ls) first rest

module _ (way : ℕ → ℕ) where
  -- ---- All claims

  -- the prices of claims never rise along their awards either
  falling-within : (top : ℕ) (left along : List ℕ) (claims : List Claim) → FallingFrom top claims → FallingBy (λ (a : Award). a.claim.price) top (walk_within way left along claims)
  falling-within top left along [] falls = tt
  falling-within top left along (l ∷ ls) falls =
      (falls.0, falling-within l.price (paths_after way left along l) (ways_after way left along l) ls falls.1)

  -- claims in order of falling prices have at least the bid value of any legal rival award
  pub best-within :
      (gives :
      Rival) (top : ℕ) (left along : List ℕ) (claims : List Claim) → FallingFrom top claims → LegalWithin way left along claims gives
      → rival_value gives claims ≤ value_of (walk_within way left along claims)
  best-within gives top left along claims falls legal =
      let given : Award → ℕ = λ a. gives a.claim.place in
      let most : (k : ℕ) → 0 + sum_of given (take k (walk_within way left along claims)) ≤ 0 + sum_of (λ (a : Award). a.taken) (take k (walk_within way left along claims)) =
      λ k. omega (
        arith,
        most-of-first way gives left along claims legal k,
        ap (sum_of given) (take_within way k left along claims),
        sum-within way (λ l. gives l.place) left along (take k claims),
      ) in
      omega (
        arith,
        sum-within way (λ l. l.price * gives l.place) left along claims,
        worth-most (λ a. a.claim.price) (λ a. a.taken) given top 0 0 (walk_within way left along claims) (falling-within top left along claims falls) most,
      )

  -- ---- One bid

  -- it wins at most the MW of its claims
  pub bid-within : (bid : ℕ) (left along : List ℕ) (claims : List Claim) → won_by bid (walk_within way left along claims) ≤ sum_of (λ (l : Claim). l.quantity) (of_bid bid claims)
  bid-within bid left along [] = omega arith
  bid-within bid left along (l ∷ ls) =
      go (eqb l.bid bid) (bid-within bid (paths_after way left along l) (ways_after way left along l) ls)
    where
      go :
          (t :
          Bool) {won : ℕ} → won ≤ sum_of (λ (m : Claim). m.quantity) (of_bid bid ls)
          → cond t (taken_within way left along l) 0 + won ≤ sum_of (λ (m : Claim). m.quantity) (cond t (l ∷ of_bid bid ls) (of_bid bid ls))
      go true h = omega arith
      go false h = omega arith

  -- What a bid won, claim by claim, is what filling its claims in order gives: a claim that takes less than its MW leaves nothing of its path or
  -- nothing along its direction, so the bid's later claims, which are on the same path, take nothing.
  pub fills-within :
      (bid path : ℕ) (left along : List ℕ) (claims : List Claim) → Each (λ l. l.bid ≡ bid → l.path ≡ path) claims
      → won_value bid (walk_within way left along claims) ≡ filled_claims (won_by bid (walk_within way left along claims)) (of_bid bid claims)
  fills-within bid path left along [] on = refl
  fills-within bid path left along (l ∷ ls) on =
      go (eqb l.bid bid) refl (fills-within bid path (paths_after way left along l) (ways_after way left along l) ls on.1)
    where
      room : ℕ
      room = min (get_or left l.path 0) (get_or along (way l.path) 0)

      later : List Award
      later = walk_within way (paths_after way left along l) (ways_after way left along l) ls

      rest : l.bid ≡ bid → won_by bid later ≤ room - min l.quantity room
      rest is =
          let here = on.0 is in
          omega (
            arith,
            won-sold bid path later (each_within way (λ m. m.bid ≡ bid → m.path ≡ path) (paths_after way left along l) (ways_after way left along l) ls on.1),
            sold-along way path later,
            path-within way path (paths_after way left along l) (ways_after way left along l) ls,
            way-within way (way path) (paths_after way left along l) (ways_after way left along l) ls,
            ap (λ (p : ℕ). get_or (paths_after way left along l) p 0) here,
            ap (λ (p : ℕ). get_or (ways_after way left along l) (way p) 0) here,
            less-there left l.path (taken_within way left along l),
            less-there along (way l.path) (taken_within way left along l),
          )

      go :
          (t :
          Bool) → eqb l.bid bid ≡ t → won_value bid later ≡ filled_claims (won_by bid later) (of_bid bid ls)
          → cond t (l.price * min l.quantity room) 0 + won_value bid later ≡ filled_claims (cond t (min l.quantity room) 0 + won_by bid later) (cond t (l ∷ of_bid bid ls) (of_bid bid ls))
      go true e h =
          ap (l.price * min l.quantity room +◌) h
          ∙ fill-next l (of_bid bid ls) room (won_by bid later) (rest (eqb-true l.bid bid e))
      go false e h = simp zero-add h
