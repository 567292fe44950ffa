use mathlib.Core.Path.{◌∙◌, ap}
use Rattle.market.specs.Books.{with_account}
use Rattle.market.specs.declared.units.Balance.{Balance}
use Rattle.call_disburse.proofs.parts.moved.Goals as goal

pub account_after-after-requires : goal.account_after-after-requires
account_after-after-requires c = c.requires

pub returns : goal.returns
returns c =
    c.with_account.ensures
    ∙ ap (λ (z : Balance). with_account c.args.book z.0) c.account_after-after.ensures
