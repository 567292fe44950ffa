-- One case for each row of the table: each `if` decides one row's test, which is rewritten to true or false. The tests
-- passed before it give the sound book and the bounded total that account_after requires.
use mathlib.Core.Path.{sym, ◌∙◌, ap}
use borrow.Author.Tests.{eq-eqb, ne_eqb, le-leb, lt-leb}
use Rattle.market.specs.declared.units.Balance.{Balance}
use Rattle.call_disburse.specs.Disbursement.{within_bound}
use borrow.Author.Rules.{rules}
use Rattle.call_disburse.proofs.parts.check_total.Goals as goal

pub returns-then-not-sound_book : goal.returns-then-not-sound_book
returns-then-not-sound_book c = rw (sym c.sound_book.ensures ∙ c.if-not-sound_book.true)

pub returns-then-total-eq0 : goal.returns-then-total-eq0
returns-then-total-eq0 c = rw (sym c.sound_book.ensures ∙ c.if-not-sound_book.false, eq-eqb _ _ c.if-total-eq0.true)

pub returns-then-total-gt-POOL_LIMIT : goal.returns-then-total-gt-POOL_LIMIT
returns-then-total-gt-POOL_LIMIT c =
    rw (
      sym c.sound_book.ensures
          ∙ c.if-not-sound_book.false,
      ne_eqb _ _ c.if-total-eq0.false,
      lt-leb _ _ c.if-total-gt-POOL_LIMIT.true,
    )

pub account_after-requires : goal.account_after-requires
account_after-requires c = record {
  book_value = sym c.sound_book.ensures ∙ c.if-not-sound_book.false;
  total_le_pool_limit = search rules;
}

pub returns-then-not-within_bound : goal.returns-then-not-within_bound
returns-then-not-within_bound c =
    let flow = c.args.flow in
    rw (
      sym c.sound_book.ensures ∙ c.if-not-sound_book.false,
      ne_eqb _ _ c.if-total-eq0.false,
      le-leb _ _ c.if-total-gt-POOL_LIMIT.false,
      ap (λ (z : Balance). within_bound flow z.0) (sym c.account_after.ensures) ∙ sym c.within_bound.ensures ∙ c.if-not-within_bound.true,
    )

pub returns : goal.returns
returns c =
    let flow = c.args.flow in
    rw (
      sym c.sound_book.ensures ∙ c.if-not-sound_book.false,
      ne_eqb _ _ c.if-total-eq0.false,
      le-leb _ _ c.if-total-gt-POOL_LIMIT.false,
      ap (λ (z : Balance). within_bound flow z.0) (sym c.account_after.ensures) ∙ sym c.within_bound.ensures ∙ c.if-not-within_bound.false,
    )
