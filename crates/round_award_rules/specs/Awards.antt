-- The awards of a round, and what they come to for bids and paths: rules 7.8 to 7.11.
use Rattle.std.specs.Prelude.{Bool, cond, ◌&&◌, ◌||◌, List, [], ◌∷◌, ◌++◌, ℕ, ◌+◌, ◌*◌, ◌-◌, min, eqb, ltb, length, get_or, set}
use Rattle.market.specs.Limits.{header_words, pair_words, admitted}
use Rattle.round_bids.specs.Bids.{Bid}
use Rattle.round_bids.specs.declared.Lamination.{Lamination}

-- ---- The laminations of admitted bids

-- rule 7.8: a claim is a lamination of an admitted bid: the number of its bid in the list, the place of its pair among the list's words, its
-- path, and the pair
pub record Claim : Type 0 where
  pub bid : ℕ
  pub place : ℕ
  pub path : ℕ
  pub price : ℕ
  pub quantity : ℕ

-- those of one bid, the first of whose pairs is at a place
abbrev pub claims_in : ℕ → ℕ → ℕ → List Lamination → List Claim
claims_in bid path place [] = []
claims_in bid path place (l ∷ ls) =
    record { bid = bid; place = place; path = path; price = l.price.0; quantity = l.quantity.0 }
    ∷ claims_in bid path (place + pair_words) ls

-- rule 7.7: those of a bid if it is admitted; no pair of a bid that is over takes part
abbrev pub claims_of_bid : ℕ → ℕ → Bid → ℕ → List Claim
claims_of_bid bid at b mark =
    cond (eqb mark admitted) (claims_in bid b.path (at + header_words) b.laminations) []

-- the place where the next bid begins, after a bid that begins at a place
abbrev pub next_at : ℕ → Bid → ℕ
next_at at b = at + header_words + length b.laminations * pair_words

-- those of bids from a number on, the first of which begins at a place; then those of a list
abbrev pub claims_from : ℕ → ℕ → List Bid → List ℕ → List Claim
claims_from bid at [] marks = []
claims_from bid at (b ∷ bs) marks =
    claims_of_bid bid at b (get_or marks bid 0)
    ++ claims_from (bid + 1) (next_at at b) bs marks

abbrev pub claims_of : List Bid → List ℕ → List Claim
claims_of bids marks = claims_from 0 0 bids marks

-- ---- The order

-- rule 7.8: the higher price has its turn first, and at the same price the bid that stands first in the list
abbrev pub comes_before : Claim → Claim → Bool
comes_before l m = ltb m.price l.price || (eqb l.price m.price && ltb l.bid m.bid)

-- a claim put into its place among claims in order
abbrev pub insert : Claim → List Claim → List Claim
insert l [] = l ∷ []
insert l (m ∷ ms) = cond (comes_before m l) (m ∷ insert l ms) (l ∷ m ∷ ms)

-- rule 7.8: claims in the order of their turns
abbrev pub in_order : List Claim → List Claim
in_order [] = []
in_order (l ∷ ls) = insert l (in_order ls)

-- ---- The walk

-- rule 7.9: what a lamination gets at its turn; `left` has what is left of each path
abbrev pub taken_of : List ℕ → Claim → ℕ
taken_of left l = min l.quantity (get_or left l.path 0)

-- rule 7.9: what is left after its turn
abbrev pub left_after : List ℕ → Claim → List ℕ
left_after left l = set left l.path (get_or left l.path 0 - taken_of left l)

-- a claim with what it took
pub record Award : Type 0 where
  pub claim : Claim
  pub taken : ℕ

-- rule 7.9: the awards of claims that have their turns one after another
abbrev pub walk : List ℕ → List Claim → List Award
walk left [] = []
walk left (l ∷ ls) = record { claim = l; taken = taken_of left l } ∷ walk (left_after left l) ls

-- rules 7.8 and 7.9: what the laminations of a round's bids take; `offered` has what the round offers of each path
unfoldable pub awards_of : List ℕ → List Bid → List ℕ → List Award
awards_of offered bids marks = walk offered (in_order (claims_of bids marks))

-- ---- What the awards come to

-- a number of each element, summed
abbrev pub sum_of : {A : Type 0} → (A → ℕ) → List A → ℕ
sum_of f [] = 0
sum_of f (x ∷ xs) = f x + sum_of f xs

-- rule 7.9: the MW that a bid won
abbrev pub won_by : ℕ → List Award → ℕ
won_by bid awards = sum_of (λ (a : Award). cond (eqb a.claim.bid bid) a.taken 0) awards

-- rule 7.15: the MW that the round sold of a path
abbrev pub sold_on : ℕ → List Award → ℕ
sold_on path awards = sum_of (λ (a : Award). cond (eqb a.claim.path path) a.taken 0) awards

-- the lower of two prices, where 0 stands for none
abbrev pub lower : ℕ → ℕ → ℕ
lower p q = cond (eqb p 0) q (cond (eqb q 0) p (min p q))

-- rule 7.10: the clearing price of a path, 0 where nothing was sold
abbrev pub price_on : ℕ → List Award → ℕ
price_on path [] = 0
price_on path (a ∷ awards) =
    lower (cond (eqb a.claim.path path && ltb 0 a.taken) a.claim.price 0) (price_on path awards)

-- rules 1.4 and 7.11: the charge of a bid
abbrev pub charge_of : ℕ → Bid → List Award → ℕ
charge_of bid b awards = price_on b.path awards * won_by bid awards
