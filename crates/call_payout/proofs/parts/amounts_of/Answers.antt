use borrow.Author.Rules.{rules}
use mathlib.Core.Path.{◌≡◌, sym, ◌∙◌, ap, ap₂, subst}
use mathlib.Core.Bool.{cond}
use mathlib.Core.List.{List}
use Prim.Native.Nat.{ℕ, ◌+◌, ◌*◌, ◌≤◌, ◌<◌}
use native.Mathlib.Omega.{arith}
use lib.ListN.{get_or, replicate}
use Rattle.market.proofs.SoundLaws.{zone-within, sound-parts, count-within}
use Rattle.market.proofs.KindLaws.{cents-at, numbers-long, cents-added}
use Rattle.market.specs.Books.{cents, in_cents, credit}
use Rattle.market.specs.Limits.{bidder_limit, path_limit, zone_price_limit, account_limit}
use Rattle.market.specs.declared.book.Entry.{Entry}
use Rattle.market.specs.declared.units.Cents.{Cents}
use Rattle.market.specs.declared.book.Book.{Book}
use Rattle.register.proofs.EntryLaws.{EntryBounds}
use Rattle.register.specs.Words.{entry_at, entries_of}
use Rattle.register.specs.Refusals.{LentRegister}
use Rattle.pool_sharing.specs.Sharing.{total}
use Rattle.call_payout.proofs.EarningLaws.{credited-more, credit-total}
use Rattle.call_payout.proofs.RateLaws.{earned_by, bounds, rate-low, credits-same, sum_fits, amount-fits}
use Rattle.call_payout.specs.Payout.{pays_on, credited, amounts_of}
use Rattle.call_payout.proofs.parts.amounts_of.Goals.{After-earned_by-earned, After-read-entry}
use Rattle.call_payout.proofs.parts.amounts_of.Goals as goal

paths-few : (b : Book) (words : List ℕ) → LentRegister b words → b.path_count ≤ path_limit
paths-few b words lent = count-within b.path_count (sound-parts b lent.sound).path-count

pub rates_of-rates-requires : goal.rates_of-rates-requires
rates_of-rates-requires c =
    record {
      count_le_path_limit = paths-few c.args.book c.args.words.now c.requires.lent_register;
      prices_value = c.requires.prices_value;
      by_index = λ i below. zone-within c.args.book i c.requires.lent_register.sound below;
    }

pub read-entry-requires : goal.read-entry-requires
read-entry-requires c = omega (arith, c.requires.lent_register.room, c.loop-i-test.true)

-- the entry in hand
module _ (p : After-read-entry) where
  within : EntryBounds p.args.book.path_count (entry_at p.args.words.now p.loop-i.i)
  within = bounds p.args.book p.args.words.now p.requires.lent_register p.loop-i.i p.loop-i-test.true

  path-below : p.read-entry.result.path < path_limit
  path-below = rw p.read-entry.ensures (omega (arith, within.path, paths-few p.args.book p.args.words.now p.requires.lent_register))

  bidder-below : p.read-entry.result.bidder < bidder_limit
  bidder-below = rw p.read-entry.ensures within.bidder

  -- what one MW earns on the entry's path
  rate-within : (get_or p.rates_of-rates.result p.read-entry.result.path (cents 0)).0 ≤ zone_price_limit
  rate-within =
      let a = p.args in
      let rates = p.rates_of-rates.result in
      let low = rate-low a.book a.words.now p.requires.lent_register p.loop-i.i p.loop-i-test.true a.failed a.prices.now
      (in_cents rates) p.rates_of-rates.ensures p.requires.prices_value in
      subst (λ (e : Entry). (get_or rates e.path (cents 0)).0 ≤ zone_price_limit) (sym p.read-entry.ensures)
      (omega (arith, low, cents-at rates (entry_at a.words.now p.loop-i.i).path))

-- what the entry in hand earns, and the total with it
module _ (p : After-earned_by-earned) where
  abbrev earns : Entry → ℕ
  earns = earned_by p.args.day (in_cents p.rates_of-rates.result)

  earned-is : p.earned_by-earned.result.0 ≡ earns (entry_at p.args.words.now p.loop-i.i)
  earned-is =
      let e = p.read-entry.result in
      ap (λ (x : Cents). x.0) p.earned_by-earned.ensures.value
      ∙ ap (λ (n : ℕ). cond (pays_on p.args.day e) (e.quantity.0 * n) 0) (sym (cents-at p.rates_of-rates.result e.path))
      ∙ ap earns p.read-entry.ensures

  sum-within : p.loop-i.total + p.earned_by-earned.result.0 ≤ account_limit
  sum-within =
      let at = p.loop-i in
      sum_fits at.i p.args.book.entries at.total p.earned_by-earned.result.0 p.loop-i-test.true p.requires.lent_register.count at.invariant.most
      p.earned_by-earned.ensures.result_bound

pub overflow_add-amounts : goal.overflow_add-amounts
overflow_add-amounts c =
    let at = c.loop-i in
    let bidder = c.read-entry.result.bidder in
    let sum = sum-within (goal.at.overflow_add-amounts c).After-earned_by-earned in
    let fits = amount-fits (in_cents at.amounts) bidder at.total c.earned_by-earned.result.0 at.invariant.sum sum in
    record { fits = omega (arith, fits, cents-at at.amounts bidder) }

pub overflow_step-i : goal.overflow_step-i
overflow_step-i c =
    record { fits = omega (arith, c.loop-i-test.true, c.requires.lent_register.count) }

pub loop-i-preserved : goal.loop-i-preserved
loop-i-preserved c =
    let p = (goal.at.loop-i-preserved c).After-earned_by-earned in
    let r = (goal.at.loop-i-preserved c).After-read-entry in
    let w = c.args.words.now in
    let at = c.loop-i in
    let zeros : List ℕ = replicate bidder_limit 0 in
    let before = credited (earns p) zeros (entries_of w at.i) in
    let e = c.read-entry.result in
    let more = c.earned_by-earned.result.0 in
    let numbers = in_cents at.amounts in
    let stored = cents-added at.amounts e.bidder more in
    let added = credit-total numbers e.bidder more (omega (arith, bidder-below r, numbers-long at.amounts bidder_limit at.invariant.long)) in
    let amounts =
    stored
    ∙ ap₂ (λ (l : List ℕ) (x : ℕ). credit l e.bidder x) at.invariant.amounts (earned-is p)
    ∙ ap (λ (x : Entry). credit before x.bidder (earns p (entry_at w at.i))) c.read-entry.ensures
    ∙ sym (credited-more (earns p) zeros w at.i)
    in
    record {
      long = search rules;
      amounts = amounts;
      sum = omega (arith, at.invariant.sum, added, ap total stored);
      most = omega (arith, at.invariant.most, c.earned_by-earned.ensures.result_bound);
    }

pub returns : goal.returns
unfolding amounts_of
returns c =
    let a = c.args in
    let b = a.book in
    let at = c.loop-i in
    let rates = c.rates_of-rates in
    let all : at.i ≡ b.entries = omega arith in
    let zeros : List ℕ = replicate bidder_limit 0 in
    let amounts =
    at.invariant.amounts
    ∙ ap (λ (n : ℕ). credited (earned_by a.day (in_cents rates.result)) zeros (entries_of a.words.now n)) all
    ∙ credits-same b a.words.now c.requires.lent_register a.failed a.prices.now (in_cents rates.result) rates.ensures a.day zeros
    in
    record {
      amounts_value = amounts;
      total_value = at.invariant.sum ∙ ap total amounts;
      total_le_account_limit = omega (arith, at.invariant.most, c.requires.lent_register.count);
    }

pub overflow_cast-entry : goal.overflow_cast-entry
overflow_cast-entry c = record { fits = omega (arith, path-below (goal.at.overflow_cast-entry c).After-read-entry) }

pub offset_bounds-rates-entry : goal.offset_bounds-rates-entry
offset_bounds-rates-entry c = record { fits = omega (arith, path-below (goal.at.offset_bounds-rates-entry c).After-read-entry) }

pub bounds-rates-entry : goal.bounds-rates-entry
bounds-rates-entry c = path-below (goal.at.bounds-rates-entry c).After-read-entry

pub earned_by-earned-requires : goal.earned_by-earned-requires
earned_by-earned-requires c =
    let at = goal.at.earned_by-earned-requires c in
    record {
      quantity_le_quantity_limit = rw c.read-entry.ensures (within at.After-read-entry).quantity;
      rate_le_zone_price_limit = rate-within at.After-read-entry;
    }

pub offset_bounds-amounts-entry : goal.offset_bounds-amounts-entry
offset_bounds-amounts-entry c = record { fits = omega (arith, bidder-below (goal.at.offset_bounds-amounts-entry c).After-read-entry) }

pub bounds-amounts-entry : goal.bounds-amounts-entry
bounds-amounts-entry c = bidder-below (goal.at.bounds-amounts-entry c).After-read-entry

pub bounds-amounts-entry-in-loop-i : goal.bounds-amounts-entry-in-loop-i
bounds-amounts-entry-in-loop-i c = bidder-below (goal.at.bounds-amounts-entry-in-loop-i c).After-read-entry

pub overflow_add-total : goal.overflow_add-total
overflow_add-total c = record { fits = omega (arith, sum-within (goal.at.overflow_add-total c).After-earned_by-earned) }
