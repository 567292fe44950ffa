-- Withdraw: rules 5.1 and 5.3.
use Rattle.std.specs.Prelude.{not, List, [], ◌∷◌, ◌++◌, ℕ, ◌-◌, leb}
use Rattle.market.specs.Answers.{Row, ◌gives◌}
use Rattle.market.specs.Books.{bidder_of, with_cash, with_letter}
use Rattle.market.specs.declared.answer.Refusal.{Refusal}
use Rattle.market.specs.declared.book.Bidder.{Bidder}
use Rattle.market.specs.declared.book.Book.{Book}
use Rattle.market.specs.declared.units.Cents.{Cents}
use Rattle.call_rules.specs.Money.{if_answered, nothing}
use Rattle.call_rules.specs.Rule.{Rule}
use Rattle.call_funding.specs.Funding.{funding_refusals, funding_on, cash_of}
use Rattle.call_funding.specs.declared.Funds.{Funds}
use Rattle.call_funding.specs.declared.Funds.TheVariants.{Cash, Letter}

-- rule 5.3: what may go: all cash but nothing of applied, and of the letter what is not held
abbrev pub withdrawable : Bidder → Funds → ℕ
withdrawable x Cash = x.cash.0
withdrawable x Letter = x.letter.0 - x.hold.0

-- rules 13.10, 13.11 and 13.12: the rows of both calls, and then more than the bidder may take out
abbrev pub withdraw_refusals : Book → ℕ → Funds → Cents → List Row
withdraw_refusals b i from amount =
    funding_refusals i amount ++ (not (leb amount.0 (withdrawable (bidder_of b i) from)) gives Refusal.Withdrawal) ∷ []

-- rule 5.3: the bidder with the amount taken off its cash, or off its letter
abbrev pub debited : Bidder → Funds → Cents → Bidder
debited x Cash amount = with_cash x (x.cash.0 - amount.0)
debited x Letter amount = with_letter x (x.letter.0 - amount.0)

-- rules 5.3 and 12.10: a withdrawal as a call, with which cash goes out
unfoldable pub withdraw : ℕ → Funds → Cents → Rule
withdraw i from amount =
    record {
      on = λ b es. funding_on (withdraw_refusals b i from amount) b i (debited (bidder_of b i) from amount);
      into = nothing;
      out = if_answered (cash_of from amount);
    }
