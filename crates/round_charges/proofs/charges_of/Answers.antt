use borrow.Author.Rules.{rules}
use native.Mathlib.Omega.{arith}
use mathlib.Core.Path.{◌≡◌, refl, sym, ◌∙◌, ap, ap₂}
use mathlib.Core.List.{List}
use Prim.Native.Nat.{ℕ, ◌*◌, ◌<◌}
use lib.ListN.{length}
use Rattle.market.proofs.KindLaws.{cents-added, cents-at, megawatts-at, number-at-any}
use Rattle.market.specs.Books.{cents, megawatts, in_cents, in_megawatts}
use Rattle.market.specs.Limits.{path_limit}
use Rattle.market.specs.Sound.{sound_quantity}
use Rattle.market.specs.declared.units.Cents.{Cents}
use Rattle.round_bids.proofs.BidLaws.{HeaderBounds}
use Rattle.round_bids.proofs.Turns.{kept, turn, past_end}
use Rattle.round_bids.proofs.Walk.{Walk, bid-right, bid-below, right-bounds}
use Rattle.round_bids.specs.Bids.{header_at}
use Rattle.round_bids.specs.declared.Header.{Header}
use Rattle.round_charges.specs.Charges.{sound_clearing_price}
use Rattle.round_charges.proofs.ChargeLaws.{ChargedTo, none-charged, one-charged, all-charged, charges-within}
use Rattle.round_charges.proofs.charges_of.Goals as goal

pub loop-k-init : goal.loop-k-init
loop-k-init c =
    let a = c.args in
    record {
      can = search rules;
      ends = search rules;
      same = search rules;
      charged = kept (ChargedTo _ _ _ _) c.into_iter-k-iterator.result (search rules) (search rules) (none-charged a.words.now (in_megawatts a.won) (in_cents a.prices) c.requires.bid_list.sound);
    }

-- the bid in hand is whole and sound, so its path and bidder are inside the tables
module _ (words : List ℕ) (k at : ℕ) (w : Walk path_limit words k at) (inside : at < length words) (h : Header) (is : h ≡ header_at words at) where
  bounds : HeaderBounds path_limit h
  bounds = rw is (right-bounds path_limit words at (bid-right path_limit words k at w inside))

pub bounds-prices-path : goal.bounds-prices-path
bounds-prices-path c =
    let u = turn c.loop-k.k-iterator c.next.new.self c.loop-k.invariant.same c.next.ensures.steps (ChargedTo _ _ _ _) c.in-Some.is c.loop-k.invariant.charged in
    (bounds _ _ _ u.here.walk u.inside _ c.header_at-header.ensures).path-below

pub bounds-won-k : goal.bounds-won-k
bounds-won-k c =
    let u = turn c.loop-k.k-iterator c.next.new.self c.loop-k.invariant.same c.next.ensures.steps (ChargedTo _ _ _ _) c.in-Some.is c.loop-k.invariant.charged in
    bid-below path_limit _ _ _ u.here.walk u.inside c.requires.bid_list.short

pub charge-bill-requires : goal.charge-bill-requires
charge-bill-requires c =
    record {
      price_value = number-at-any (λ x. x.0) sound_clearing_price c.args.prices c.header_at-header.result.path (cents 0) c.requires.prices_value refl;
      won_value = number-at-any (λ x. x.0) sound_quantity c.args.won c.in-Some.k (megawatts 0) c.requires.won_value refl;
    }

pub bounds-charges-bidder : goal.bounds-charges-bidder
bounds-charges-bidder c =
    let u = turn c.loop-k.k-iterator c.next.new.self c.loop-k.invariant.same c.next.ensures.steps (ChargedTo _ _ _ _) c.in-Some.is c.loop-k.invariant.charged in
    (bounds _ _ _ u.here.walk u.inside _ c.header_at-header.ensures).bidder-below

pub overflow_add-charges : goal.overflow_add-charges
overflow_add-charges c =
    let u = turn c.loop-k.k-iterator c.next.new.self c.loop-k.invariant.same c.next.ensures.steps (ChargedTo _ _ _ _) c.in-Some.is c.loop-k.invariant.charged in
    let bidder = c.header_at-header.result.bidder in
    let few = bid-below path_limit _ _ _ u.here.walk u.inside c.requires.bid_list.short in
    record { fits = omega (arith, few, u.here.within bidder, cents-at c.loop-k.charges bidder, c.charge-bill.ensures.result_le_lamination_value_limit) }

pub bounds-charges-bidder-in-loop-k : goal.bounds-charges-bidder-in-loop-k
bounds-charges-bidder-in-loop-k c =
    let u = turn c.loop-k.k-iterator c.next.new.self c.loop-k.invariant.same c.next.ensures.steps (ChargedTo _ _ _ _) c.in-Some.is c.loop-k.invariant.charged in
    (bounds _ _ _ u.here.walk u.inside _ c.header_at-header.ensures).bidder-below

pub loop-k-preserved : goal.loop-k-preserved
loop-k-preserved c =
    let u = turn c.loop-k.k-iterator c.next.new.self c.loop-k.invariant.same c.next.ensures.steps (ChargedTo _ _ _ _) c.in-Some.is c.loop-k.invariant.charged in
    let a = c.args in
    let h = c.header_at-header in
    let bill = c.charge-bill in
    let is = ap (λ (m : Cents). m.0) bill.ensures.value ∙ ap₂ ◌*◌ (sym (cents-at a.prices h.result.path)) (sym (megawatts-at a.won c.in-Some.k)) in
    let path-is = ap (λ (x : Header). x.path) h.ensures in
    let bidder-is = ap (λ (x : Header). x.bidder) h.ensures in
    record {
      can = search rules;
      ends = search rules;
      same = u.same;
      charged =
          kept (ChargedTo _ _ _ _) c.next.new.self u.number u.place
          (rw (cents-added c.loop-k.charges h.result.bidder bill.result.0) (one-charged u.here u.inside _ _ _ bidder-is path-is is bill.ensures.result_le_lamination_value_limit));
    }

pub returns : goal.returns
returns c =
    let s = c.loop-k.invariant.charged in
    let end = past_end c.loop-k.k-iterator c.next.new.self c.loop-k.invariant.same c.next.ensures.steps c.in-None.is in
    record {
      result_value = all-charged s end;
      result_value_2 = charges-within s end c.requires.bid_list.short;
    }
