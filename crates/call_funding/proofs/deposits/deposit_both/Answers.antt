-- By cases on the cash deposit: refused, it is the answer (`cash-refused`); answered, the letter's deposit follows
-- (`cash-made`). The book after the cash deposit is sound (`deposit-if-keeps`), which the second call requires.
use mathlib.Core.Path.{sym, ◌∙◌, subst}
use Rattle.market.specs.declared.answer.Outcome.{Outcome}
use Rattle.call_funding.specs.declared.Funds.TheVariants.{Cash}
use Rattle.call_funding.proofs.DepositLaws.{cash-refused, cash-made}
use Rattle.call_funding.proofs.KeptDeposits.{Sound, deposit-if-keeps, deposit-stays-sound}
use Rattle.call_funding.proofs.deposits.deposit_both.Goals as goal

pub returns-then-is_err : goal.returns-then-is_err
returns-then-is_err c =
    let a = c.args in
    let cash = c.deposit_if-cash in
    cash-refused a.book a.of cash.result cash.ensures (sym c.is_err.ensures.value ∙ c.if-is_err.true)

pub deposit_if-requires : goal.deposit_if-requires
deposit_if-requires c =
    let s = c.before.before.before in
    let x = s.args.of in
    subst (λ (o : Outcome). Sound o.book) (sym c.deposit_if-cash.ensures)
    (deposit-if-keeps Sound deposit-stays-sound x.cash.0 s.args.book x.bidder Cash s.requires)

pub returns : goal.returns
returns c =
    let p = c.before.before in
    let a = p.args in
    let cash = p.deposit_if-cash in
    c.deposit_if.ensures
    ∙ cash-made a.book a.of cash.result cash.ensures (sym p.is_err.ensures.value ∙ c.if-is_err.false)

pub deposit_if-cash-requires : goal.deposit_if-cash-requires
deposit_if-cash-requires c = c.requires
