-- Rent: rule 10.1.
use Rattle.std.specs.Prelude.{not, List, [], ◌∷◌, leb, eqb, ℤ, pos, ◌+ℤ◌}
use Rattle.market.specs.Answers.{Row, ◌gives◌, answered}
use Rattle.market.specs.Books.{with_account}
use Rattle.market.specs.Limits.{money_limit}
use Rattle.market.specs.Sound.{sound_account}
use Rattle.market.specs.declared.answer.Refusal.{Refusal}
use Rattle.market.specs.declared.book.Book.{Book}
use Rattle.market.specs.declared.units.Cents.{Cents}
use Rattle.call_rules.specs.Money.{if_answered, nothing}
use Rattle.call_rules.specs.Rule.{Rule, no_fronts}
use Rattle.call_rules.specs.Rule.Register.{unlent}

-- rule 10.1: the account with the rent
abbrev pub account_with_rent : Book → Cents → ℤ
account_with_rent b amount = b.account.0 +ℤ pos amount.0

-- rules 10.1, 13.11 and 13.31: the amount is outside its range, or the account would be outside its limits
abbrev pub rent_refusals : Book → Cents → List Row
rent_refusals b amount =
    (eqb amount.0 0 gives Refusal.Amount)
    ∷ (not (leb amount.0 money_limit) gives Refusal.Amount)
    ∷ (not (sound_account (account_with_rent b amount)) gives Refusal.Account)
    ∷ []

-- rules 10.1 and 12.10: rent as a call, in either stage; the amount comes in
unfoldable pub rent : Cents → Rule
rent amount =
    record {
      on =
          λ b es.
          record {
            lent = [];
            register = unlent;
            own = rent_refusals b amount;
            outcome = answered (with_account b (account_with_rent b amount));
            fronts = no_fronts;
          };
      into = if_answered amount.0;
      out = nothing;
    }
