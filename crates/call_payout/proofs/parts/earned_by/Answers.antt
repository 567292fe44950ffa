-- By cases on whether the entry pays that day: pays_on decides the contract's `cond`. Quantity and rate are within
-- their limits, so the product fits a word and is at most the product of the limits (product-within).
use mathlib.Core.Path.{sym, ◌∙◌}
use native.Mathlib.Omega.{arith}
use Rattle.call_payout.proofs.EarningLaws.{product-within}
use Rattle.call_payout.proofs.parts.earned_by.Goals as goal

pub returns-then-not-pays_on : goal.returns-then-not-pays_on
returns-then-not-pays_on c =
    let stays = sym c.pays_on.ensures ∙ c.if-not-pays_on.true in
    record {
      value = rw stays;
      result_bound = omega arith;
    }

pub overflow_mul-result : goal.overflow_mul-result
overflow_mul-result c =
    let pre = c.requires in
    record { fits = rw c.from.ensures (omega (arith, product-within pre.quantity_le_quantity_limit pre.rate_le_zone_price_limit)) }

pub returns : goal.returns
returns c =
    let pre = c.requires in
    let pays = sym c.pays_on.ensures ∙ c.if-not-pays_on.false in
    record {
      value = rw (pays, c.from.ensures);
      result_bound = rw c.from.ensures (product-within pre.quantity_le_quantity_limit pre.rate_le_zone_price_limit);
    }
