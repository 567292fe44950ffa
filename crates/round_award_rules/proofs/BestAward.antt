-- The awards of a round, against rules 7.9 to 7.11 and rules 12.5 to 12.8: for bids that a round takes, any marks of the bids, and any offer of each path.
use mathlib.Core.Path.{◌≡◌, sym, ◌∙◌, subst}
use mathlib.Core.Bool.{true, false, cond}
use mathlib.Core.List.{List, []}
use Prim.Native.Nat.{ℕ, ◌+◌, ◌*◌, ◌≤◌, ◌<◌}
use native.Mathlib.Omega.{arith}
use lib.Dec.{eqb}
use lib.ListN.{length, get_or}
use Rattle.market.specs.Limits.{admitted, price_limit}
use Rattle.round_bids.specs.Bids.{Bid}
use Rattle.round_bids.specs.Encoding.{right_bids}
use Rattle.round_award_rules.specs.Awards.{Claim, Award, claims_of, in_order, awards_of, won_by, sold_on, price_on, charge_of}
use Rattle.round_award_rules.specs.Rivals.{Each, Rival, Legal, rival_value, filled_value, total_value, filled_award}
use Rattle.round_award_rules.proofs.Claims.{each_map, EachAward}
use Rattle.round_award_rules.proofs.OrderLaws.{sum-order, each-order, falling-order}
use Rattle.round_award_rules.proofs.WalkLaws.{sold-within, taken-within, each-walk}
use Rattle.round_award_rules.proofs.ValueLaws.{value_of, best-in-order}
use Rattle.round_award_rules.proofs.PriceLaws.{Took, price-lowest, none-sold, some-sold, won_value, charge-at-most}
use Rattle.round_award_rules.proofs.BidClaims.{Strict}
use Rattle.round_award_rules.proofs.RoundClaims.{EachBid, bids-map, bids-at, SoundPairs, right-pairs, InRound, claims-from, Own, own-claims}
use Rattle.round_award_rules.proofs.RoundLaws.{own-path-won, over_none, fills-bid, sum_bids, value-sum, of_one, sums-by-bid, path-part}
use Rattle.round_award_rules.proofs.Filling.{Given, given-from}

-- ---- What is known of a round's claims

module _ (paths : ℕ) (offered : List ℕ) (bids : List Bid) (marks : List ℕ) (right : right_bids paths bids ≡ true) where
  pairs : EachBid SoundPairs 0 bids
  pairs = right-pairs paths 0 [] bids right

  in-round : Each (InRound 0 (0 + length bids)) (claims_of bids marks)
  in-round = (claims-from 0 0 bids marks pairs).0

  strict : Strict (claims_of bids marks)
  strict = (claims-from 0 0 bids marks pairs).1

  own : EachBid (Own (claims_of bids marks) marks) 0 bids
  own = own-claims 0 0 bids marks pairs

  pub own_at : (k : ℕ) (d : Bid) → k < length bids → Own (claims_of bids marks) marks k (get_or bids k d)
  own_at k d below =
      subst (λ (i : ℕ). Own (claims_of bids marks) marks i (get_or bids k d)) (let same : 0 + k ≡ k = omega arith in same)
      (bids-at (Own (claims_of bids marks) marks) 0 bids k d below own)

  pub known : (P : Claim → Type 0) → ((l : Claim) → InRound 0 (0 + length bids) l → P l) → EachAward (λ a. P a.claim) (awards_of offered bids marks)
  unfolding awards_of
  known P f =
      each-walk P offered (in_order (claims_of bids marks))
      (each-order P (claims_of bids marks) (each_map {P = InRound 0 (0 + length bids)} {Q = P} f (claims_of bids marks) in-round))

  some-price : EachAward (λ a. 1 ≤ a.claim.price) (awards_of offered bids marks)
  some-price = known (λ l. 1 ≤ l.price) (λ l i. i.some)

  pub bid-below : EachAward (λ a. a.claim.bid < length bids) (awards_of offered bids marks)
  bid-below = known (λ l. l.bid < length bids) (λ l i. omega (arith, i.to))

  pub on-path : (k : ℕ) (b : Bid) → Own (claims_of bids marks) marks k b → EachAward (λ a. a.claim.bid ≡ k → a.claim.path ≡ b.path) (awards_of offered bids marks)
  unfolding awards_of
  on-path k b mine = own-path-won (claims_of bids marks) marks k b mine offered

  value-of : (k : ℕ) (b : Bid) → Own (claims_of bids marks) marks k b → won_value k (awards_of offered bids marks) ≡ filled_value (won_by k (awards_of offered bids marks)) b.laminations
  unfolding awards_of
  value-of k b mine = fills-bid (claims_of bids marks) marks k b mine offered strict

  none_of : (k : ℕ) (b : Bid) → Own (claims_of bids marks) marks k b → eqb (get_or marks k 0) admitted ≡ false → won_by k (awards_of offered bids marks) ≡ 0
  unfolding awards_of
  none_of k b mine = over_none (claims_of bids marks) marks k b mine offered strict

  value-total : value_of (awards_of offered bids marks) ≡ total_value (λ k. won_by k (awards_of offered bids marks)) bids
  value-total =
      let awards = awards_of offered bids marks in
      let g : ℕ → Bid → ℕ = λ k b. filled_value (won_by k awards) b.laminations in
      sums-by-bid (λ a. a.claim.price * a.taken) g awards bids bid-below
      (bids-map (Own (claims_of bids marks) marks) (λ k b. of_one (λ a. a.claim.price * a.taken) k awards ≡ g k b) 0 bids (λ k b from mine. value-of k b mine) own)
      ∙ sym (value-sum (λ k. won_by k awards) 0 bids)

  best-walk : (gives : Rival) → Legal offered (claims_of bids marks) gives → rival_value gives (claims_of bids marks) ≤ value_of (awards_of offered bids marks)
  unfolding awards_of
  best-walk gives legal =
      let claims = claims_of bids marks in
      let falls = falling-order price_limit claims (each_map {P = InRound 0 (0 + length bids)} {Q = λ l. l.price ≤ price_limit} (λ l i. i.top) claims in-round) in
      let ordered : Legal offered (in_order claims) gives = record {
        own = each-order (λ l. gives l.place ≤ l.quantity) claims legal.own;
        shared = λ path. omega (arith, sum-order (λ (l : Claim). cond (eqb l.path path) (gives l.place) 0) claims, legal.shared path);
      } in
      omega (arith, sum-order (λ (l : Claim). l.price * gives l.place) claims, best-in-order gives price_limit offered (in_order claims) falls ordered)

  -- ---- The award

  -- rule 12.7: no rival award has a higher total bid value than the round's
  pub best-award : (gives : Rival) → Legal offered (claims_of bids marks) gives → rival_value gives (claims_of bids marks) ≤ total_value (λ k. won_by k (awards_of offered bids marks)) bids
  best-award gives legal = omega (arith, best-walk gives legal, value-total)

  -- rule 7.9: no more is sold of a path than the round offers of it
  pub sold-within-offer : (path : ℕ) → sold_on path (awards_of offered bids marks) ≤ get_or offered path 0
  unfolding awards_of
  sold-within-offer path = sold-within path offered (in_order (claims_of bids marks))

  -- rule 7.9: no lamination gets more than its MW
  pub taken-within-own : EachAward (λ a. a.taken ≤ a.claim.quantity) (awards_of offered bids marks)
  unfolding awards_of
  taken-within-own = taken-within offered (in_order (claims_of bids marks))

  -- what a path sold is what its bids won
  pub sold-is-won : (path : ℕ) → sold_on path (awards_of offered bids marks) ≡ sum_bids (λ k b. cond (eqb b.path path) (won_by k (awards_of offered bids marks)) 0) 0 bids
  sold-is-won path =
      let awards = awards_of offered bids marks in
      let f : Award → ℕ = λ a. cond (eqb a.claim.path path) a.taken 0 in
      let g : ℕ → Bid → ℕ = λ k b. cond (eqb b.path path) (won_by k awards) 0 in
      sums-by-bid f g awards bids bid-below
      (bids-map (Own (claims_of bids marks) marks) (λ k b. of_one f k awards ≡ g k b) 0 bids (λ k b from mine. path-part k b.path path awards (on-path k b mine)) own)

  given : Given (λ k. won_by k (awards_of offered bids marks)) 0 bids (claims_of bids marks) (filled_award (λ k. won_by k (awards_of offered bids marks)) bids)
  given =
      let won : ℕ → ℕ = λ k. won_by k (awards_of offered bids marks) in
      given-from won marks 0 0 bids
      (bids-map (Own (claims_of bids marks) marks) (λ k b. eqb (get_or marks k 0) admitted ≡ false → won k ≡ 0) 0 bids (λ k b from mine over. none_of k b mine over) own)

  -- rule 12.6: the round's award, with each pair filled before the next, is itself a rival award
  pub award-legal : Legal offered (claims_of bids marks) (filled_award (λ k. won_by k (awards_of offered bids marks)) bids)
  award-legal =
      record {
        own = given.own;
        shared = λ path. omega (arith, given.shared path, sold-is-won path, sold-within-offer path);
      }

  -- rules 12.5 and 12.6: the value of that award is the round's total bid value, so no rival award has a higher value than this one, which is itself
  -- a rival award
  pub award-value : rival_value (filled_award (λ k. won_by k (awards_of offered bids marks)) bids) (claims_of bids marks) ≡ total_value (λ k. won_by k (awards_of offered bids marks)) bids
  award-value = given.value

  -- ---- Each bid

  module _ (k : ℕ) (d : Bid) (below : k < length bids) where
    -- rule 12.6: the value of what a bid's laminations took is that of giving them the MW that the bid won, each filled before the next
    pub fills-in-order : won_value k (awards_of offered bids marks) ≡ filled_value (won_by k (awards_of offered bids marks)) (get_or bids k d).laminations
    fills-in-order = value-of k (get_or bids k d) (own_at k d below)

    -- rule 7.7: a bid that is over wins nothing
    pub over-wins-none : eqb (get_or marks k 0) admitted ≡ false → won_by k (awards_of offered bids marks) ≡ 0
    over-wins-none over = none_of k (get_or bids k d) (own_at k d below) over

    -- rule 12.8: no bid is charged more than its bid value for what it won
    pub charge-within : charge_of k (get_or bids k d) (awards_of offered bids marks) ≤ filled_value (won_by k (awards_of offered bids marks)) (get_or bids k d).laminations
    charge-within =
        omega (
          arith,
          charge-at-most k (get_or bids k d).path (awards_of offered bids marks) some-price (on-path k (get_or bids k d) (own_at k d below)),
          fills-in-order,
        )

  -- ---- Each path

  -- rule 7.10: no lamination that got any MW of a path is cheaper than its clearing price
  pub price-is-lowest :
      (path : ℕ)
      → EachAward (λ a. Took path a → (0 < price_on path (awards_of offered bids marks)) × (price_on path (awards_of offered bids marks) ≤ a.claim.price)) (awards_of offered bids marks)
  price-is-lowest path = price-lowest path (awards_of offered bids marks) some-price

  -- rule 7.10: a path that sold nothing has no clearing price
  pub no-award-no-price : (path : ℕ) → sold_on path (awards_of offered bids marks) ≡ 0 → price_on path (awards_of offered bids marks) ≡ 0
  no-award-no-price path none = none-sold path (awards_of offered bids marks) none

  -- and one that sold something has one
  pub award-has-price : (path : ℕ) → 0 < sold_on path (awards_of offered bids marks) → 0 < price_on path (awards_of offered bids marks)
  award-has-price path sold = some-sold path (awards_of offered bids marks) some-price sold
