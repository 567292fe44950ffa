-- Rent's rule is lawful: it keeps a sound state, and the rent comes in.
use mathlib.Core.Path.{refl}
use native.Mathlib.Omega.{arith}
use Rattle.market.specs.declared.units.Cents.{Cents}
use Rattle.call_rules.proofs.Lawful.{Lawful}
use Rattle.call_rules.proofs.SoundStates.{account-kept}
use Rattle.call_rules.proofs.Sums.{gained}
use Rattle.call_rules.specs.Money.{cash_held}
use Rattle.call_rules.specs.Rule.{Lists}
use Rattle.call_rent.specs.Rent.{account_with_rent, rent}
use Rattle.call_rent.proofs.Cleared.{rentable}

pub rent-lawful : (amount : Cents) (lists : Lists) → Lawful (rent amount) lists
unfolding rent
rent-lawful amount lists =
    record {
      lent-rows = λ b es. refl;
      own-rows = λ b es. refl;
      answers = λ b es. refl;
      paths = λ b es. refl;
      none_in = λ r. refl;
      none_out = λ r. refl;
      few = λ b es sound clear. (omega arith, omega arith);
      keeps = λ b es state clear. account-kept b es (account_with_rent b amount) state (rentable b amount clear.own).account;
      moves = λ b es state clear. gained b.account.0 (cash_held b) (cash_held b) amount.0 amount.0 (omega arith);
    }
