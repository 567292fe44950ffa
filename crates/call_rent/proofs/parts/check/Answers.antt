-- One case for each row of the table: each `if` decides one row's test, which is rewritten to true or false. The sound
-- account and the bounded amount that `plus` requires come from the tests that were passed before it.
use mathlib.Core.Path.{sym, ◌∙◌, ap}
use native.Mathlib.Omega.{arith}
use borrow.Author.Tests.{eq-eqb, ne_eqb, le-leb, lt-leb}
use Rattle.market.proofs.SoundLaws.{sound-parts}
use Rattle.market.specs.Sound.{sound_account}
use Rattle.market.specs.declared.units.Balance.{Balance}
use Rattle.call_rules.specs.Steps.{verdict_of}
use Rattle.call_rent.specs.Rent.{rent}
use Rattle.call_rent.proofs.parts.check.Goals as goal

pub returns-then-not-sound_book : goal.returns-then-not-sound_book
unfolding verdict_of rent
returns-then-not-sound_book c = rw (sym c.sound_book.ensures ∙ c.if-not-sound_book.true)

pub returns-then-amount-eq0 : goal.returns-then-amount-eq0
unfolding verdict_of rent
returns-then-amount-eq0 c = rw (sym c.sound_book.ensures ∙ c.if-not-sound_book.false, eq-eqb _ _ c.if-amount-eq0.true)

pub returns-then-amount-gt-MONEY_LIMIT : goal.returns-then-amount-gt-MONEY_LIMIT
unfolding verdict_of rent
returns-then-amount-gt-MONEY_LIMIT c =
    rw (
      sym c.sound_book.ensures
          ∙ c.if-not-sound_book.false,
      ne_eqb _ _ c.if-amount-eq0.false,
      lt-leb _ _ c.if-amount-gt-MONEY_LIMIT.true,
    )

pub plus-requires : goal.plus-requires
plus-requires c = record {
  account_value = (sound-parts c.args.book (sym c.sound_book.ensures ∙ c.if-not-sound_book.false)).account;
  amount_le_account_limit = omega (arith, c.if-amount-gt-MONEY_LIMIT.false);
}

pub returns-then-not-sound : goal.returns-then-not-sound
unfolding verdict_of rent
returns-then-not-sound c =
    rw (
      sym c.sound_book.ensures ∙ c.if-not-sound_book.false,
      ne_eqb _ _ c.if-amount-eq0.false,
      le-leb _ _ c.if-amount-gt-MONEY_LIMIT.false,
      ap (λ (z : Balance). sound_account z.0) (sym c.plus.ensures) ∙ sym c.sound.ensures ∙ c.if-not-sound.true,
    )

pub returns : goal.returns
unfolding verdict_of rent
returns c =
    rw (
      sym c.sound_book.ensures ∙ c.if-not-sound_book.false,
      ne_eqb _ _ c.if-amount-eq0.false,
      le-leb _ _ c.if-amount-gt-MONEY_LIMIT.false,
      ap (λ (z : Balance). sound_account z.0) (sym c.plus.ensures) ∙ sym c.sound.ensures ∙ c.if-not-sound.false,
    )
