use borrow.Author.Rules.{rules}
use native.Mathlib.Omega.{arith}
use mathlib.Core.Path.{◌≡◌, refl, ◌∙◌, ap, ap₂}
use mathlib.Core.List.{List}
use Prim.Native.Nat.{ℕ}
use lib.ListN.{get_or, set}
use Rattle.market.proofs.Filled.{fill-next}
use Rattle.market.proofs.KindLaws.{map-set}
use Rattle.market.specs.Books.{no_path}
use Rattle.market.specs.Limits.{path_limit}
use Rattle.market.specs.declared.units.Cents.{Cents}
use Rattle.call_payout_hour.specs.Hours.{rate}
use Rattle.call_payout_hour.specs.declared.Hour.{Hour}
use Rattle.call_payout.proofs.EarningLaws.{hour-sound, filled_at}
use Rattle.call_payout.specs.Payout.{rate_on}
use Rattle.call_payout.proofs.parts.rates_of.Goals as goal

pub loop-i-init : goal.loop-i-init
loop-i-init c = (search rules, refl)

pub rate_of-requires : goal.rate_of-requires
rate_of-requires c =
    let a = c.args in
    let at = c.loop-i in
    rw c.hour_at-hour.ensures
    (hour-sound a.failed a.prices.now (get_or a.paths at.i no_path) c.requires.prices_value (c.requires.by_index at.i c.loop-i-test.true))

pub loop-i-preserved : goal.loop-i-preserved
loop-i-preserved c =
    let a = c.args in
    let at = c.loop-i in
    let f = rate_on a.failed a.prices.now in
    let path = get_or a.paths at.i no_path in
    let made = ap (λ (x : Cents). x.0) c.rate_of.ensures.value ∙ ap (λ (h : Hour). rate h path.direction) c.hour_at-hour.ensures in (
      search rules,
      map-set (λ (x : Cents). x.0) at.rates at.i c.rate_of.result
          ∙ ap₂ (λ (l : List ℕ) (x : ℕ). set l at.i x) at.invariant.1 made
          ∙ fill-next f a.paths path_limit 0 at.i no_path (search rules) (search rules),
    )

pub returns : goal.returns
returns c =
    let a = c.args in
    let at = c.loop-i in
    let all : at.i ≡ a.count = omega arith in
    λ k below. ap (λ (l : List ℕ). get_or l k 0) at.invariant.1 ∙ filled_at (rate_on a.failed a.prices.now) a.paths path_limit 0 at.i k no_path (omega arith) (search rules)
