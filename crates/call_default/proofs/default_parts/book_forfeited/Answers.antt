-- A sound book bounds the bidder and the account, so that `forfeit` and `plus` may be called (bidder-within,
-- sound-parts). What the callees ensure, put one into the other, is the rule's book.
use mathlib.Core.Path.{◌∙◌, ap, ap₂}
use native.Mathlib.Omega.{arith}
use lib.IntN.{pos, ◌+ℤ◌}
use Rattle.market.proofs.SoundLaws.{sound-parts, bidder-within}
use Rattle.market.specs.Books.{cents, balance, with_bidder, with_account}
use Rattle.market.specs.declared.units.Balance.{Balance}
use Rattle.market.specs.declared.units.Cents.{Cents}
use Rattle.market.specs.declared.book.Bidder.{Bidder}
use Rattle.market.specs.declared.book.Book.{Book}
use Rattle.call_default.specs.Default.{forfeit_of, defaulted}
use Rattle.call_default.proofs.default_parts.book_forfeited.Goals as goal

pub forfeit-requires : goal.forfeit-requires
forfeit-requires c = rw c.bidder-debtor.ensures (bidder-within c.args.book c.args.bidder c.requires.book_value)

pub plus-after-requires : goal.plus-after-requires
plus-after-requires c =
    let within = rw (← c.bidder-debtor.ensures) at (bidder-within c.args.book c.args.bidder c.requires.book_value) in
    rw c.forfeit.ensures
    (record { account_value = (sound-parts c.args.book c.requires.book_value).account; amount_le_account_limit = omega (arith, within.owed, within.held, within.letter) })

pub defaulted_bidder-requires : goal.defaulted_bidder-requires
defaulted_bidder-requires c =
    rw c.bidder-debtor.ensures
    (bidder-within c.args.book c.args.bidder c.requires.book_value)

pub returns : goal.returns
returns c =
    let a = c.args in
    let debtor = c.bidder-debtor.ensures in
    let lost = c.forfeit.ensures ∙ ap (λ (x : Bidder). cents (forfeit_of x)) debtor in
    c.with_account.ensures
    ∙ ap₂ (λ (b : Book) (z : Balance). with_account b z.0)
    (c.with_bidder-defaulted.ensures ∙ ap (with_bidder a.book a.bidder) (c.defaulted_bidder.ensures ∙ ap defaulted debtor))
    (c.plus-after.ensures ∙ ap (λ (v : Cents). balance (a.book.account.0 +ℤ pos v.0)) lost)
