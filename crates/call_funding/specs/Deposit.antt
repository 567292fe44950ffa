-- Deposit: rules 5.1 and 5.2.
use Rattle.std.specs.Prelude.{Bool, not, List, [], ◌∷◌, ◌++◌, ℕ, ◌+◌, leb}
use Rattle.market.specs.Answers.{Row, ◌gives◌}
use Rattle.market.specs.Books.{held_of, bidder_of, with_cash, with_letter}
use Rattle.market.specs.Limits.{money_limit}
use Rattle.market.specs.declared.answer.Refusal.{Refusal}
use Rattle.market.specs.declared.book.Bidder.{Bidder}
use Rattle.market.specs.declared.book.Book.{Book}
use Rattle.market.specs.declared.units.Cents.{Cents}
use Rattle.call_rules.specs.Money.{if_answered, nothing}
use Rattle.call_rules.specs.Rule.{Rule}
use Rattle.call_funding.specs.Funding.{funding_refusals, funding_on, cash_of}
use Rattle.call_funding.specs.declared.Funds.{Funds}
use Rattle.call_funding.specs.declared.Funds.TheVariants.{Cash, Letter}

-- rule 5.2: the amount does not take cash + applied, or the letter, past the limit
abbrev pub has_room : Bidder → Funds → Cents → Bool
has_room x Cash amount = leb (held_of x + amount.0) money_limit
has_room x Letter amount = leb (x.letter.0 + amount.0) money_limit

-- rules 13.10 and 13.11: the rows of both calls, and then a deposit past its limit
abbrev pub deposit_refusals : Book → ℕ → Funds → Cents → List Row
deposit_refusals b i to amount =
    funding_refusals i amount ++ (not (has_room (bidder_of b i) to amount) gives Refusal.Amount) ∷ []

-- rule 5.2: the bidder with the amount added to its cash, or to its letter
abbrev pub with_deposit : Bidder → Funds → Cents → Bidder
with_deposit x Cash amount = with_cash x (x.cash.0 + amount.0)
with_deposit x Letter amount = with_letter x (x.letter.0 + amount.0)

-- rules 5.2 and 12.10: a deposit as a call, with which cash comes in
unfoldable pub deposit : ℕ → Funds → Cents → Rule
deposit i to amount =
    record {
      on = λ b es. funding_on (deposit_refusals b i to amount) b i (with_deposit (bidder_of b i) to amount);
      into = if_answered (cash_of to amount);
      out = nothing;
    }
