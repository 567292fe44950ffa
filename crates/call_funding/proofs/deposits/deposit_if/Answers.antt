use mathlib.Core.Path.{◌∙◌}
use Rattle.call_funding.proofs.DepositLaws.{none-deposited, some-deposited}
use Rattle.call_funding.proofs.deposits.deposit_if.Goals as goal

pub returns-then-amount-eq0 : goal.returns-then-amount-eq0
returns-then-amount-eq0 c =
    let a = c.args in
    none-deposited a.amount.0 a.book a.bidder a.to c.if-amount-eq0.true

pub deposit_sound-requires : goal.deposit_sound-requires
deposit_sound-requires c = c.requires

pub returns : goal.returns
returns c =
    let a = c.args in
    c.deposit_sound.ensures ∙ some-deposited a.amount.0 a.book a.bidder a.to c.if-amount-eq0.false
