-- The bounds of what a round works out: quantities of MW within 9,999, and prices within 10^8.
use mathlib.Core.Path.{◌≡◌, refl, ap₂}
use mathlib.Core.Bool.{Bool, true, false, cond, ◌&&◌}
use mathlib.Core.List.{List, [], ◌∷◌, map}
use Prim.Native.Nat.{ℕ, zero, suc, ◌-◌, ◌≤◌, ◌<◌, min}
use native.Mathlib.Omega.{arith}
use lib.Dec.{leb, ltb, eqb}
use lib.ListN.{length, get_or, replicate}
use borrow.Author.Tests.{leb-true, le-leb, eqb-true, leb-false}
use Rattle.market.proofs.Every.{every-at-any, every_append, every-replicate, every_map}
use Rattle.market.proofs.SoundLaws.{sound-parts, path-bounds}
use Rattle.market.specs.Books.{every, paths_of}
use Rattle.market.specs.Limits.{quantity_limit, price_limit, path_limit, bid_limit}
use Rattle.market.specs.Sound.{sound_path, sound_quantity, sound_book, round_of, kind_of}
use Rattle.market.specs.declared.book.Book.{Book}
use Rattle.call_open_offers.proofs.OfferLaws.{offered-within}
use Rattle.call_open_offers.specs.Offers.{round_offer}
use Rattle.round_bids.specs.Bids.{Bid}
use Rattle.round_bids.specs.Encoding.{right_bids}
use Rattle.round_award_rules.proofs.BestAward.{sold-within-offer, own_at, known, bid-below, on-path}
use Rattle.round_award_rules.proofs.FillLaws.{won-sold}
use Rattle.round_award_rules.proofs.Claims.{EachAward}
use Rattle.round_award_rules.specs.Awards.{Award, awards_of, won_by, sold_on, price_on, lower}
use Rattle.round_awards.specs.Tables.{below}
use Rattle.round_charges.specs.Charges.{sound_clearing_price}
use Rattle.call_round.specs.Round.{offered_now, marks_now, awards_now, won_now, sold_now, prices_now}

-- ---- Tables

-- what holds of each value holds of a table
pub every-below : (test : ℕ → Bool) (n : ℕ) (f : ℕ → ℕ) → ((i : ℕ) → test (f i) ≡ true) → every test (below n f) ≡ true
every-below test zero f h = refl
every-below test (suc n) f h = every_append test (below n f) (f n ∷ []) (every-below test n f h) (ap₂ ◌&&◌ (h n) refl)

-- ---- Sums of awards

-- a bid past the last one won nothing
pub none-past : (bid count : ℕ) (awards : List Award) → count ≤ bid → EachAward (λ a. a.claim.bid < count) awards → won_by bid awards ≤ 0
none-past bid count [] past h = omega arith
none-past bid count (a ∷ awards) past h =
    omega (arith, one (eqb a.claim.bid bid) refl, none-past bid count awards past h.1)
  where
    one : (t : Bool) → eqb a.claim.bid bid ≡ t → cond t a.taken 0 ≤ 0
    one true e = absurd (let no : ⊥ = omega (arith, eqb-true a.claim.bid bid e, h.0) in no)
    one false e = omega arith

-- the lower of two prices within a bound is within it
lower-within : (p q top : ℕ) → p ≤ top → q ≤ top → lower p q ≤ top
lower-within p q top hp hq = go (eqb p 0) (eqb q 0)
  where
    go : (s t : Bool) → cond s q (cond t p (min p q)) ≤ top
    go true t = hq
    go false true = hp
    go false false = omega arith

-- a clearing price is no higher than the prices of the claims
pub price-within : (path top : ℕ) (awards : List Award) → EachAward (λ a. a.claim.price ≤ top) awards → price_on path awards ≤ top
price-within path top [] h = omega arith
price-within path top (a ∷ awards) h =
    lower-within (cond (eqb a.claim.path path && ltb 0 a.taken) a.claim.price 0) (price_on path awards) top
    (one (eqb a.claim.path path && ltb 0 a.taken)) (price-within path top awards h.1)
  where
    one : (t : Bool) → cond t a.claim.price 0 ≤ top
    one true = h.0
    one false = omega arith

-- ---- The awards of bids that a round takes

abbrev pub no_bid : Bid
no_bid = record { bidder = 0; path = 0; stamp = 0; laminations = [] }

module _ (paths : ℕ) (offered : List ℕ) (bids : List Bid) (marks : List ℕ) (right : right_bids paths bids ≡ true) where
  pub sold-quantity : every sound_quantity offered ≡ true → (path : ℕ) → sold_on path (awards_of offered bids marks) ≤ quantity_limit
  sold-quantity h path =
      let some : get_or offered path 0 ≤ quantity_limit = leb-true (get_or offered path 0) quantity_limit (every-at-any sound_quantity offered path 0 h refl) in
      omega (arith, sold-within-offer paths offered bids marks right path, some)

  pub won-quantity : every sound_quantity offered ≡ true → (bid : ℕ) → won_by bid (awards_of offered bids marks) ≤ quantity_limit
  won-quantity h bid = go (leb (length bids) bid) refl
    where
      go : (t : Bool) → leb (length bids) bid ≡ t → won_by bid (awards_of offered bids marks) ≤ quantity_limit
      go true e =
          let none = none-past bid (length bids) (awards_of offered bids marks) (leb-true (length bids) bid e) (bid-below paths offered bids marks right) in
          omega (arith, none)
      go false e =
          let b = get_or bids bid no_bid in
          let own = own_at paths offered bids marks right bid no_bid (leb-false (length bids) bid e) in
          let most = won-sold bid b.path (awards_of offered bids marks) (on-path paths offered bids marks right bid b own) in
          omega (arith, most, sold-quantity h b.path)

  pub price-limit : (path : ℕ) → price_on path (awards_of offered bids marks) ≤ price_limit
  price-limit path =
      price-within path price_limit (awards_of offered bids marks) (known paths offered bids marks right (λ l. l.price ≤ price_limit) (λ l i. i.top))

-- ---- What a sound book offers

pub offered-quantities : (b : Book) → sound_book b ≡ true → every sound_quantity (offered_now b) ≡ true
offered-quantities b h =
    let round = round_of b.stage in
    let kind = kind_of b.stage in
    every_append sound_quantity (map (round_offer kind round) (paths_of b)) (replicate (path_limit - b.path_count) 0)
    (every_map (round_offer kind round) sound_quantity (sound_path round)
    (λ p ok. le-leb (round_offer kind round p) quantity_limit (omega (arith, offered-within kind round p, (path-bounds round p ok).offer)))
    (paths_of b) (sound-parts b h).paths)
    (every-replicate sound_quantity (path_limit - b.path_count) 0 refl)

-- ---- The tables of a round

module _ (b : Book) (bids : List Bid) (sound : sound_book b ≡ true) (right : right_bids b.path_count bids ≡ true) where
  pub won-quantities : every sound_quantity (won_now b bids) ≡ true
  unfolding awards_now
  won-quantities =
      every-below sound_quantity bid_limit (λ bid. won_by bid (awards_now b bids))
      (λ bid. le-leb (won_by bid (awards_now b bids)) quantity_limit (won-quantity b.path_count (offered_now b) bids (marks_now b bids) right (offered-quantities b sound) bid))

  pub sold-quantities : every sound_quantity (sold_now b bids) ≡ true
  unfolding awards_now
  sold-quantities =
      every-below sound_quantity path_limit (λ path. sold_on path (awards_now b bids))
      (λ path. le-leb (sold_on path (awards_now b bids)) quantity_limit (sold-quantity b.path_count (offered_now b) bids (marks_now b bids) right (offered-quantities b sound) path))

  pub price-bounds : every sound_clearing_price (prices_now b bids) ≡ true
  unfolding awards_now
  price-bounds =
      every-below sound_clearing_price path_limit (λ path. price_on path (awards_now b bids))
      (λ path. le-leb (price_on path (awards_now b bids)) price_limit (price-limit b.path_count (offered_now b) bids (marks_now b bids) right path))
