use native.Mathlib.Omega.{arith}
use mathlib.Core.Path.{◌≡◌, ap}
use mathlib.Core.Bool.{true, cond}
use mathlib.Core.List.{List}
use Prim.Native.Nat.{ℕ, ◌+◌, ◌<◌}
use borrow.Author.Rules.{rules}
use lib.Dec.{leb}
use lib.ListN.{length, get_or}
use Rattle.market.proofs.KindLaws.{map-change, cents-at}
use Rattle.market.specs.Books.{cents, in_cents}
use Rattle.market.specs.Limits.{path_limit, bidder_limit}
use Rattle.market.specs.declared.units.Cents.{Cents}
use Rattle.round_bids.proofs.BidLaws.{HeaderBounds}
use Rattle.round_bids.proofs.Turns.{kept, turn, past_end}
use Rattle.round_bids.proofs.Walk.{Walk, bid-right, bid-below, right-bounds, right-pairs}
use Rattle.round_bids.specs.Bids.{header_at}
use Rattle.round_bids.specs.BidRefusals.{sound_bid_at}
use Rattle.round_bids.specs.declared.Header.{Header}
use Rattle.round_admission.proofs.MarkLaws.{MarkedTo, none-marked, one-marked, all-marked, total-within}
use Rattle.round_admission.proofs.marks_of.Goals as goal

pub loop-k-init : goal.loop-k-init
loop-k-init c =
    record {
      can = search rules;
      ends = search rules;
      same = search rules;
      marked = kept (MarkedTo _ _ _ _) c.into_iter-k-iterator.result (search rules) (search rules) (none-marked c.args.words.now (in_cents c.args.limits) c.requires.bid_list.sound);
    }

-- the bid in hand is whole and sound, and its number is below the limit
module _ (words : List ℕ) (k at : ℕ) (w : Walk path_limit words k at) (inside : at < length words) where
  good : sound_bid_at path_limit words at ≡ true
  good = bid-right path_limit words k at w inside

  bounds : HeaderBounds path_limit (header_at words at)
  bounds = right-bounds path_limit words at good

  -- its bidder is inside the tables
  bidder-below : (h : Header) → h ≡ header_at words at → h.bidder < bidder_limit
  bidder-below h is = let same = ap (λ (x : Header). x.bidder) is in omega (arith, same, bounds.bidder-below)

pub bid_value-value-requires-clause-at_bound : goal.bid_value-value-requires-clause-at_bound
bid_value-value-requires-clause-at_bound c =
    let u = turn c.loop-k.k-iterator c.next.new.self c.loop-k.invariant.same c.next.ensures.steps (MarkedTo _ _ _ _) c.in-Some.is c.loop-k.invariant.marked in
    (bounds _ _ _ u.here.walk u.inside).few

pub bid_value-value-requires-clause-at_value : goal.bid_value-value-requires-clause-at_value
bid_value-value-requires-clause-at_value c =
    let u = turn c.loop-k.k-iterator c.next.new.self c.loop-k.invariant.same c.next.ensures.steps (MarkedTo _ _ _ _) c.in-Some.is c.loop-k.invariant.marked in
    right-pairs path_limit c.args.words.now c.in-Some.at (good _ _ _ u.here.walk u.inside)

pub bounds-used-bidder : goal.bounds-used-bidder
bounds-used-bidder c =
    let u = turn c.loop-k.k-iterator c.next.new.self c.loop-k.invariant.same c.next.ensures.steps (MarkedTo _ _ _ _) c.in-Some.is c.loop-k.invariant.marked in
    bidder-below _ _ _ u.here.walk u.inside c.header_at-header.result c.header_at-header.ensures

pub overflow_add-total : goal.overflow_add-total
overflow_add-total c =
    let u = turn c.loop-k.k-iterator c.next.new.self c.loop-k.invariant.same c.next.ensures.steps (MarkedTo _ _ _ _) c.in-Some.is c.loop-k.invariant.marked in
    let bidder = c.header_at-header.result.bidder in
    let within = total-within u.here u.inside c.requires.bid_list.short c.requires.limits_value bidder in
    record { fits = omega (arith, c.bid_value-value.ensures.result_le_bid_value_limit, cents-at c.loop-k.used bidder, within) }

pub bounds-limits-bidder : goal.bounds-limits-bidder
bounds-limits-bidder c =
    let u = turn c.loop-k.k-iterator c.next.new.self c.loop-k.invariant.same c.next.ensures.steps (MarkedTo _ _ _ _) c.in-Some.is c.loop-k.invariant.marked in
    bidder-below _ _ _ u.here.walk u.inside c.header_at-header.result c.header_at-header.ensures

pub bounds-marks-k : goal.bounds-marks-k
bounds-marks-k c =
    let u = turn c.loop-k.k-iterator c.next.new.self c.loop-k.invariant.same c.next.ensures.steps (MarkedTo _ _ _ _) c.in-Some.is c.loop-k.invariant.marked in
    bid-below path_limit _ _ _ u.here.walk u.inside c.requires.bid_list.short

pub bounds-used-bidder-in-loop-k : goal.bounds-used-bidder-in-loop-k
bounds-used-bidder-in-loop-k c =
    let u = turn c.loop-k.k-iterator c.next.new.self c.loop-k.invariant.same c.next.ensures.steps (MarkedTo _ _ _ _) c.in-Some.is c.loop-k.invariant.marked in
    bidder-below _ _ _ u.here.walk u.inside c.header_at-header.result c.header_at-header.ensures

pub loop-k-preserved : goal.loop-k-preserved
loop-k-preserved c =
    let u = turn c.loop-k.k-iterator c.next.new.self c.loop-k.invariant.same c.next.ensures.steps (MarkedTo _ _ _ _) c.in-Some.is c.loop-k.invariant.marked in
    let bidder = c.header_at-header.result.bidder in
    let value = c.bid_value-value.result.0 in
    let limit = (get_or c.args.limits bidder (cents 0)).0 in
    let changes = map-change (λ x. x.0) c.loop-k.used bidder (cents 0) c.used_after-after.result
    (λ n. cond (leb (n + value) limit) (n + value) n) c.used_after-after.ensures
    in
    let is = ap (λ (m : Cents). m.0) c.bid_value-value.ensures.value in
    let bidder-is = ap (λ (h : Header). h.bidder) c.header_at-header.ensures in
    record {
      can = search rules;
      ends = search rules;
      same = u.same;
      marked =
          rw (changes, c.mark_of-mark.ensures, ← cents-at c.loop-k.used bidder, ← cents-at c.args.limits bidder)
          (kept (MarkedTo _ _ _ _) c.next.new.self u.number u.place (one-marked u.here u.inside c.requires.bid_list.short c.requires.limits_value _ _ bidder-is is));
    }

pub returns-clause-marks : goal.returns-clause-marks
returns-clause-marks c =
    all-marked c.loop-k.invariant.marked (past_end c.loop-k.k-iterator c.next.new.self c.loop-k.invariant.same c.next.ensures.steps c.in-None.is)
