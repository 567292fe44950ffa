use mathlib.Core.Path.{◌∙◌, ap}
use native.Mathlib.Omega.{arith}
use Rattle.market.proofs.SoundLaws.{sound-parts}
use Rattle.market.specs.Books.{with_account}
use Rattle.market.specs.declared.units.Balance.{Balance}
use Rattle.call_rent.proofs.parts.with_rent.Goals as goal

pub plus-after-requires : goal.plus-after-requires
plus-after-requires c = record {
  account_value = (sound-parts c.args.book c.requires.book_value).account;
  amount_le_account_limit = omega (arith, c.requires.amount_le_money_limit);
}

pub returns : goal.returns
returns c =
    c.with_account.ensures
    ∙ ap (λ (z : Balance). with_account c.args.book z.0) c.plus-after.ensures
