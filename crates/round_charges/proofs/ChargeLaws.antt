-- The charges of bids added up one by one, as `charges_of` does.
use mathlib.Core.Path.{◌≡◌, refl, sym, ◌∙◌, ap, subst}
use mathlib.Core.Bool.{true, false, Bool}
use mathlib.Core.List.{List}
use Prim.Native.Nat.{ℕ, ◌+◌, ◌*◌, ◌≤◌, ◌<◌}
use native.Mathlib.Nat.{mul-le-mul}
use native.Mathlib.Omega.{arith}
use lib.Dec.{eqb}
use lib.ListN.{length, get_or, length-set}
use lib.Seq.{get_or-set_same, get_or-set_other}
use borrow.Author.Tests.{le-leb, leb-true, eqb-true, eqb-false}
use Rattle.market.proofs.Filled.{zeros, zeros-at}
use Rattle.market.proofs.Every.{every-all}
use Rattle.market.specs.Books.{every, credit}
use Rattle.market.specs.Limits.{bidder_limit, bid_limit, bid_list_words, path_limit, price_limit, quantity_limit}
use Rattle.market.specs.Sound.{sound_quantity}
use Rattle.round_bids.proofs.Walk.{Walk, left, walk_start, left-start, walk-on, walk-done, left-splits, bid-right, right-bounds}
use Rattle.round_bids.specs.BidRefusals.{sound_list}
use Rattle.round_bids.specs.Bids.{Bid, bid_at, bid_end, bids_of, lamination_value_limit}
use Rattle.round_charges.specs.Charges.{sound_clearing_price, within_charges, charge_at, charged_from, charges_of}

pub charge-within : (price won : ℕ) → sound_clearing_price price ≡ true → sound_quantity won ≡ true → price * won ≤ lamination_value_limit
charge-within price won p q = mul-le-mul (leb-true price price_limit p) (leb-true won quantity_limit q)

-- after a credit each amount is at most the old bound plus the charge
credit-within :
    (amounts : List ℕ) (bidder charge top i : ℕ) → bidder < length amounts → get_or amounts i 0 ≤ top → get_or amounts bidder 0 ≤ top
    → get_or (credit amounts bidder charge) i 0 ≤ top + charge
credit-within amounts bidder charge top i inside h hb = go (eqb bidder i) refl
  where
    go : (t : Bool) → eqb bidder i ≡ t → get_or (credit amounts bidder charge) i 0 ≤ top + charge
    go true e =
        let same : bidder ≡ i = eqb-true bidder i e in
        subst (λ (n : ℕ). get_or (credit amounts bidder charge) n 0 ≤ top + charge) same
        (omega (arith, get_or-set_same amounts bidder (get_or amounts bidder 0 + charge) 0 inside))
    go false e =
        omega (arith, get_or-set_other amounts bidder i (get_or amounts bidder 0 + charge) 0 (λ s. eqb-false bidder i e (sym s)))

-- the charges of the first `k` bids are added up, and those of the rest are still to come
pub record ChargedTo (words won prices charges : List ℕ) (k at : ℕ) : Type 0 where
  pub walk : Walk path_limit words k at
  pub rest : charges_of won prices (bids_of words) ≡ charged_from won prices charges k (left walk)
  pub slots : length charges ≡ bidder_limit
  pub within : (i : ℕ) → get_or charges i 0 ≤ k * lamination_value_limit

pub none-charged : (words won prices : List ℕ) → sound_list path_limit words ≡ true → ChargedTo words won prices (zeros bidder_limit) 0 0
none-charged words won prices ok =
    record {
      walk = walk_start path_limit words ok;
      rest = ap (charged_from won prices (zeros bidder_limit) 0) (sym (left-start path_limit words ok));
      slots = refl;
      within = λ i. omega (arith, zeros-at bidder_limit i);
    }

module _ {words won prices charges : List ℕ} {k at : ℕ} (s : ChargedTo words won prices charges k at) where
  -- every bid is charged
  module _ (end : length words ≤ at) where
    pub all-charged : charges ≡ charges_of won prices (bids_of words)
    all-charged = sym (s.rest ∙ ap (charged_from won prices charges k) (walk-done path_limit words k at s.walk end))

    pub charges-within : length words ≤ bid_list_words → every within_charges charges ≡ true
    charges-within short =
        every-all within_charges charges 0
        (λ i inside. le-leb (get_or charges i 0) (bid_limit * lamination_value_limit) (omega (arith, s.within i, s.walk.places, s.walk.within)))

  module _ (inside : at < length words) where
    abbrev bid : Bid
    bid = bid_at words at

    exactly : charge_at won prices k bid ≤ lamination_value_limit → ChargedTo words won prices (credit charges bid.bidder (charge_at won prices k bid)) (k + 1) (bid_end words at)
    exactly most =
        let below = (right-bounds path_limit words at (bid-right path_limit words k at s.walk inside)).bidder-below in
        record {
          walk = walk-on path_limit words k at s.walk inside;
          rest = s.rest ∙ ap (charged_from won prices charges k) (left-splits path_limit words k at s.walk inside);
          slots = length-set charges bid.bidder (get_or charges bid.bidder 0 + charge_at won prices k bid) ∙ s.slots;
          within = λ i.
              omega (
                arith,
                most,
                credit-within charges bid.bidder (charge_at won prices k bid) (k * lamination_value_limit) i
                    (omega (arith, below, s.slots)) (s.within i) (s.within bid.bidder),
              );
        }

    -- the bid here is charged
    pub one-charged :
        (bidder path charge : ℕ) → bidder ≡ bid.bidder → path ≡ bid.path → charge ≡ get_or prices path 0 * get_or won k 0 → charge ≤ lamination_value_limit
        → ChargedTo words won prices (credit charges bidder charge) (k + 1) (bid_end words at)
    one-charged bidder path charge eb ep ec most =
        let is : charge ≡ charge_at won prices k bid = ec ∙ ap (λ (p : ℕ). get_or prices p 0 * get_or won k 0) ep in
        subst (λ (n : ℕ). ChargedTo words won prices (credit charges n charge) (k + 1) (bid_end words at)) (sym eb)
        (subst (λ (n : ℕ). ChargedTo words won prices (credit charges bid.bidder n) (k + 1) (bid_end words at)) (sym is)
        (exactly (omega (arith, most, is))))
