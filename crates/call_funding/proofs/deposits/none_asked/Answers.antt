use mathlib.Core.Path.{refl, sym, ◌∙◌}
use borrow.Author.Rules.{rules}
use Rattle.market.proofs.Tests.{pass-first, fail-first, passed_first}
use Rattle.call_funding.specs.Deposits.{no_deposit}
use Rattle.call_funding.proofs.DepositLaws.{nothing_asked}
use Rattle.call_funding.proofs.deposits.none_asked.Goals as goal

pub loop-i-init : goal.loop-i-init
loop-i-init c = (search rules, refl)

pub returns-then-not-asks_none : goal.returns-then-not-asks_none
returns-then-not-asks_none c =
    let a = c.args in
    let at = c.loop-i in
    sym
    (fail-first no_deposit a.bidders a.count (search rules) at.i nothing_asked (search rules) at.invariant.1
    (sym c.asks_none.ensures ∙ c.if-not-asks_none.true))

pub loop-i-preserved : goal.loop-i-preserved
loop-i-preserved c =
    let a = c.args in
    let at = c.loop-i in (
      search rules,
      pass-first no_deposit a.bidders a.count (search rules) at.i nothing_asked (search rules) at.invariant.1
          (sym c.asks_none.ensures ∙ c.if-not-asks_none.false),
    )

pub returns : goal.returns
returns c =
    let a = c.args in
    let at = c.loop-i in
    sym (passed_first no_deposit a.bidders a.count (search rules) at.i nothing_asked (search rules) at.invariant.1)
