-- A sound book bounds the bidder and the account, so that `value` and `plus` may be called (bidder-within,
-- sound-parts). What the callees ensure, put one into the other, is the rule's book.
use mathlib.Core.Path.{◌∙◌, ap, ap₂}
use Rattle.market.specs.Books.{cents, value_of, balance, with_bidder, with_account}
use native.Mathlib.Omega.{arith}
use lib.IntN.{pos, ◌+ℤ◌}
use Rattle.market.proofs.SoundLaws.{sound-parts, bidder-within}
use Rattle.market.specs.declared.units.Balance.{Balance}
use Rattle.market.specs.declared.units.Cents.{Cents}
use Rattle.market.specs.declared.book.Bidder.{Bidder}
use Rattle.market.specs.declared.book.Book.{Book}
use Rattle.call_pay.specs.Pay.{paid}
use Rattle.call_pay.proofs.pay_parts.book_paid.Goals as goal

pub value-requires : goal.value-requires
value-requires c = rw c.bidder-payer.ensures (bidder-within c.args.book c.args.bidder c.requires.book_value)

pub plus-after-requires : goal.plus-after-requires
plus-after-requires c =
    let within = rw (← c.bidder-payer.ensures) at (bidder-within c.args.book c.args.bidder c.requires.book_value) in
    rw c.value.ensures
    (record { account_value = (sound-parts c.args.book c.requires.book_value).account; amount_le_account_limit = omega (arith, within.owed, within.held) })

pub returns : goal.returns
returns c =
    let a = c.args in
    let payer = c.bidder-payer.ensures in
    let value = c.value.ensures ∙ ap (λ (x : Bidder). cents (value_of x)) payer in
    c.with_account.ensures
    ∙ ap₂ (λ (b : Book) (z : Balance). with_account b z.0)
    (c.with_bidder-paid.ensures ∙ ap (with_bidder a.book a.bidder) (c.paid_bidder.ensures ∙ ap paid payer))
    (c.plus-after.ensures ∙ ap (λ (v : Cents). balance (a.book.account.0 +ℤ pos v.0)) value)
