use Rattle.market.specs.declared.units.Cents.{Cents}
use borrow.Author.Rules.{rules}
use native.Mathlib.Omega.{arith}
use mathlib.Core.Path.{◌≡◌, sym, ap}
use Rattle.market.specs.Books.{cents}
use Rattle.round_bids.specs.Bids.{lamination_value}
use Rattle.round_bids.proofs.ValueLaws.{none-added, all-added, sound-here, one-added}
use Rattle.round_bids.proofs.pairs_value.Goals as goal

pub loop-i-init : goal.loop-i-init
loop-i-init c = let a = c.args in (search rules, none-added a.words.now a.at a.count c.requires.count_value)

pub lamination_value-sum-requires : goal.lamination_value-sum-requires
lamination_value-sum-requires c = let a = c.args in
    let at = c.loop-i in
    let lam = c.lamination_at-lamination in sound-here a.words.now a.at a.count at.i at.sum at.invariant.1 lam.result lam.ensures (search rules)

pub overflow_add-sum : goal.overflow_add-sum
overflow_add-sum c = let a = c.args in
    let at = c.loop-i in
    let lam = c.lamination_at-lamination in
    record { fits = omega (arith, at.invariant.1.within, c.lamination_value-sum.ensures.result_le_lamination_value_limit) }

pub loop-i-preserved : goal.loop-i-preserved
loop-i-preserved c = let a = c.args in
    let at = c.loop-i in
    let lam = c.lamination_at-lamination in
    let value : c.lamination_value-sum.result.0 ≡ lamination_value lam.result = ap (λ (m : Cents). m.0) c.lamination_value-sum.ensures.value in (
      search rules,
      rw (value) (one-added a.words.now a.at a.count at.i at.sum at.invariant.1 lam.result lam.ensures (search rules)),
    )

pub returns : goal.returns
returns c = let a = c.args in
    let at = c.loop-i in
    record {
      value = ap cents (sym (all-added a.words.now a.at a.count at.i at.sum at.invariant.1 (search rules)));
      result_le_bid_value_limit = omega (arith, at.invariant.1.within);
    }
