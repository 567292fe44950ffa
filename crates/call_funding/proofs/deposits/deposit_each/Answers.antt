use mathlib.Core.Path.{◌≡◌, sym, ◌∙◌, subst}
use native.Mathlib.Omega.{arith}
use lib.ListN.{length, get_or}
use borrow.Author.Rules.{rules}
use Rattle.market.specs.Limits.{bidder_limit}
use Rattle.market.specs.declared.answer.Outcome.{Outcome}
use Rattle.call_funding.proofs.DepositLaws.{nothing_asked, none_made, all_made, bidder-refused, bidder-done}
use Rattle.call_funding.proofs.KeptDeposits.{Sound, both-keep, deposit-stays-sound}
use Rattle.call_funding.proofs.deposits.deposit_each.Goals.{After-is_err}
use Rattle.call_funding.proofs.deposits.deposit_each.Goals as goal

pub loop-i-init : goal.loop-i-init
loop-i-init c =
    let long : length c.args.bidders ≡ bidder_limit = search rules in
    (none_made c.args.book c.args.bidders c.args.count (omega (arith, long, c.requires.count_le_bidder_limit)), c.requires.book_value)

pub returns-then-is_err : goal.returns-then-is_err
returns-then-is_err c =
    let p = c.before in
    let a = c.args in
    let at = p.loop-i in
    let both = p.deposit_both-outcome in
    bidder-refused a.book a.bidders a.count at.now at.i at.invariant.0 nothing_asked both.result both.ensures p.loop-i-test.true
    (sym p.is_err.ensures.value ∙ c.if-is_err.true)

pub loop-i-preserved : goal.loop-i-preserved
loop-i-preserved c =
    let p = c.before.before in
    let a = c.args in
    let at = p.loop-i in
    let both = p.deposit_both-outcome in (
      bidder-done a.book a.bidders a.count at.now at.i at.invariant.0 nothing_asked both.result both.ensures p.loop-i-test.true
          (sym p.is_err.ensures.value ∙ c.if-is_err.false),
      subst (λ (o : Outcome). Sound o.book) (sym both.ensures)
          (both-keep Sound deposit-stays-sound at.now (get_or a.bidders at.i nothing_asked) at.invariant.1),
    )

pub returns : goal.returns
returns c =
    let a = c.args in
    let at = c.loop-i in
    all_made a.book a.bidders a.count at.now at.i at.invariant.0 (search rules)

pub deposit_both-outcome-requires : goal.deposit_both-outcome-requires
deposit_both-outcome-requires c = c.loop-i.invariant.1
