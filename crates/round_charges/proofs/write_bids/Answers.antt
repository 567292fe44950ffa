use borrow.Author.Rules.{rules}
use native.Mathlib.Omega.{arith}
use mathlib.Core.Path.{◌≡◌, refl, sym, ◌∙◌, ap}
use mathlib.Core.List.{List}
use Prim.Native.Nat.{ℕ, ◌*◌, ◌<◌}
use lib.ListN.{length, get_or}
use Rattle.market.proofs.KindLaws.{cents-at, megawatts-at, number-at-any}
use Rattle.market.specs.Books.{cents, megawatts, in_cents, in_megawatts}
use Rattle.market.specs.Limits.{path_limit}
use Rattle.market.specs.Sound.{sound_quantity}
use Rattle.market.specs.declared.units.Cents.{Cents}
use Rattle.round_bids.proofs.BidLaws.{HeaderBounds}
use Rattle.round_bids.proofs.Turns.{kept, turn, past_end}
use Rattle.round_bids.proofs.Walk.{Walk, bid-right, bid-below, right-bounds, right-pairs}
use Rattle.round_bids.specs.Bids.{header_at}
use Rattle.round_bids.specs.declared.Header.{Header}
use Rattle.round_charges.specs.Charges.{sound_clearing_price}
use Rattle.round_charges.proofs.RowLaws.{LaidTo, none-laid, one-laid, all_laid}
use Rattle.round_charges.proofs.write_bids.Goals as goal

pub loop-k-init : goal.loop-k-init
loop-k-init c =
    let a = c.args in
    record {
      can = search rules;
      ends = search rules;
      same = search rules;
      long = refl;
      laid =
          kept (LaidTo _ _ _ _ _ _) c.into_iter-k-iterator.result (search rules) (search rules)
          (none-laid a.words.now a.marks.now (in_megawatts a.won) (in_cents a.prices) a.answers.now c.requires.bid_list.sound);
    }

-- the bid in hand is whole and sound, so its path and bidder are inside the tables
module _ (words : List ℕ) (k at : ℕ) (w : Walk path_limit words k at) (inside : at < length words) (h : Header) (is : h ≡ header_at words at) where
  bounds : HeaderBounds path_limit h
  bounds = rw is (right-bounds path_limit words at (bid-right path_limit words k at w inside))

pub bid_value-value-requires-clause-at_bound : goal.bid_value-value-requires-clause-at_bound
bid_value-value-requires-clause-at_bound c =
    let u = turn c.loop-k.k-iterator c.next.new.self c.loop-k.invariant.same c.next.ensures.steps (LaidTo _ _ _ _ _ _) c.in-Some.is c.loop-k.invariant.laid in
    (bounds _ _ _ u.here.walk u.inside _ refl).few

pub bid_value-value-requires-clause-at_value : goal.bid_value-value-requires-clause-at_value
bid_value-value-requires-clause-at_value c =
    let u = turn c.loop-k.k-iterator c.next.new.self c.loop-k.invariant.same c.next.ensures.steps (LaidTo _ _ _ _ _ _) c.in-Some.is c.loop-k.invariant.laid in
    right-pairs path_limit c.args.words.now c.in-Some.at (bid-right path_limit _ _ _ u.here.walk u.inside)

pub bounds-prices-path : goal.bounds-prices-path
bounds-prices-path c =
    let u = turn c.loop-k.k-iterator c.next.new.self c.loop-k.invariant.same c.next.ensures.steps (LaidTo _ _ _ _ _ _) c.in-Some.is c.loop-k.invariant.laid in
    (bounds _ _ _ u.here.walk u.inside _ c.header_at-header.ensures).path-below

pub bounds-won-k : goal.bounds-won-k
bounds-won-k c =
    let u = turn c.loop-k.k-iterator c.next.new.self c.loop-k.invariant.same c.next.ensures.steps (LaidTo _ _ _ _ _ _) c.in-Some.is c.loop-k.invariant.laid in
    bid-below path_limit _ _ _ u.here.walk u.inside c.requires.bid_list.short

pub bounds-won-k-in-loop-k : goal.bounds-won-k-in-loop-k
bounds-won-k-in-loop-k c =
    let u = turn c.loop-k.k-iterator c.next.new.self c.loop-k.invariant.same c.next.ensures.steps (LaidTo _ _ _ _ _ _) c.in-Some.is c.loop-k.invariant.laid in
    bid-below path_limit _ _ _ u.here.walk u.inside c.requires.bid_list.short

pub charge-bill-requires : goal.charge-bill-requires
charge-bill-requires c =
    record {
      price_value = number-at-any (λ x. x.0) sound_clearing_price c.args.prices c.header_at-header.result.path (cents 0) c.requires.prices_value refl;
      won_value = number-at-any (λ x. x.0) sound_quantity c.args.won c.in-Some.k (megawatts 0) c.requires.won_value refl;
    }

pub bounds-marks-k : goal.bounds-marks-k
bounds-marks-k c =
    let u = turn c.loop-k.k-iterator c.next.new.self c.loop-k.invariant.same c.next.ensures.steps (LaidTo _ _ _ _ _ _) c.in-Some.is c.loop-k.invariant.laid in
    omega (arith, bid-below path_limit _ _ _ u.here.walk u.inside c.requires.bid_list.short, c.requires.bid_limit_in_bounds)

pub put_row-requires : goal.put_row-requires
put_row-requires c =
    let u = turn c.loop-k.k-iterator c.next.new.self c.loop-k.invariant.same c.next.ensures.steps (LaidTo _ _ _ _ _ _) c.in-Some.is c.loop-k.invariant.laid in
    omega (arith, bid-below path_limit _ _ _ u.here.walk u.inside c.requires.bid_list.short, c.loop-k.invariant.long, c.requires.bid_answer_words_in_bounds)

pub loop-k-preserved : goal.loop-k-preserved
loop-k-preserved c =
    let u = turn c.loop-k.k-iterator c.next.new.self c.loop-k.invariant.same c.next.ensures.steps (LaidTo _ _ _ _ _ _) c.in-Some.is c.loop-k.invariant.laid in
    let a = c.args in
    let h = c.header_at-header in
    let value = ap (λ (m : Cents). m.0) c.bid_value-value.ensures.value in
    let taken = sym (megawatts-at a.won c.in-Some.k) in
    let price = sym (cents-at a.prices h.result.path) in
    let is = ap (λ (m : Cents). m.0) c.charge-bill.ensures.value ∙ ap (◌* (get_or a.won c.in-Some.k (megawatts 0)).0) price in
    let path-is = ap (λ (x : Header). x.path) h.ensures in
    record {
      can = search rules;
      ends = search rules;
      same = u.same;
      long = c.put_row.auto.answers ∙ c.loop-k.invariant.long;
      laid = kept (LaidTo _ _ _ _ _ _) c.next.new.self u.number u.place (rw (c.put_row.ensures, c.from.ensures, c.from-in-loop-k.ensures) (one-laid u.here u.inside _ _ _ _ value path-is taken is));
    }

pub returns : goal.returns
returns c =
    all_laid c.loop-k.invariant.laid (past_end c.loop-k.k-iterator c.next.new.self c.loop-k.invariant.same c.next.ensures.steps c.in-None.is)
