-- One case for each row of the table: each `if` decides one row's test, on the bidder that was read. A sound book
-- bounds the bidder and the account, which `forfeit` and `plus` require (bidder-within, sound-parts).
use mathlib.Core.Path.{sym, ◌∙◌, ap}
use native.Mathlib.Omega.{arith}
use lib.IntN.{pos, ◌+ℤ◌}
use borrow.Author.Tests.{lt-ltb, le-ltb, eq-eqb, ne_eqb}
use Rattle.market.proofs.SoundLaws.{sound-parts, bidder-within}
use Rattle.market.specs.Books.{balance}
use Rattle.market.specs.Sound.{sound_account}
use Rattle.market.specs.declared.units.Balance.{Balance}
use Rattle.market.specs.declared.units.Cents.{Cents}
use Rattle.call_default.proofs.default_parts.check_own.Goals as goal

pub returns-then-bidder-ge-BIDDERS : goal.returns-then-bidder-ge-BIDDERS
returns-then-bidder-ge-BIDDERS c =
    rw (
      sym c.is_idle.ensures ∙ c.if-not-is_idle.false,
      le-ltb _ _ c.if-bidder-ge-BIDDERS.true,
    )

pub returns-then-owed-eq0 : goal.returns-then-owed-eq0
returns-then-owed-eq0 c =
    rw (
      sym c.is_idle.ensures ∙ c.if-not-is_idle.false,
      lt-ltb _ _ c.if-bidder-ge-BIDDERS.false,
      ← c.bidder-debtor.ensures,
      eq-eqb _ _ c.if-owed-eq0.true,
    )

pub forfeit-requires : goal.forfeit-requires
forfeit-requires c =
    rw c.bidder-debtor.ensures
    (bidder-within c.args.book c.args.bidder
    c.requires)

pub plus-requires : goal.plus-requires
plus-requires c =
    let within = rw (← c.bidder-debtor.ensures) at (bidder-within c.args.book c.args.bidder c.requires) in
    rw c.forfeit.ensures
    (record { account_value = (sound-parts c.args.book c.requires).account; amount_le_account_limit = omega (arith, within.owed, within.held, within.letter) })

pub returns-then-not-sound : goal.returns-then-not-sound
returns-then-not-sound c =
    rw (
      sym c.is_idle.ensures
          ∙ c.if-not-is_idle.false,
      lt-ltb _ _ c.if-bidder-ge-BIDDERS.false,
      ← c.bidder-debtor.ensures,
      ne_eqb _ _ c.if-owed-eq0.false,
      ap (λ (z : Balance). sound_account z.0)
          (sym
          (c.plus.ensures
          ∙ ap (λ (v : Cents). balance (c.args.book.account.0 +ℤ pos v.0))
          c.forfeit.ensures))
          ∙ sym c.sound.ensures
          ∙ c.if-not-sound.true,
    )

pub returns : goal.returns
returns c =
    rw (
      sym c.is_idle.ensures
          ∙ c.if-not-is_idle.false,
      lt-ltb _ _ c.if-bidder-ge-BIDDERS.false,
      ← c.bidder-debtor.ensures,
      ne_eqb _ _ c.if-owed-eq0.false,
      ap (λ (z : Balance). sound_account z.0)
          (sym
          (c.plus.ensures
          ∙ ap (λ (v : Cents). balance (c.args.book.account.0 +ℤ pos v.0))
          c.forfeit.ensures))
          ∙ sym c.sound.ensures
          ∙ c.if-not-sound.false,
    )
