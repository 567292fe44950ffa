-- What deposit and withdraw have in common: rules 5.1, 13.10 and 13.11.
use Rattle.std.specs.Prelude.{not, List, [], ◌∷◌, ℕ, ltb, eqb}
use Rattle.market.specs.Answers.{Row, ◌gives◌, answered}
use Rattle.market.specs.Books.{with_bidder}
use Rattle.market.specs.Limits.{bidder_limit}
use Rattle.market.specs.declared.answer.Refusal.{Refusal}
use Rattle.market.specs.declared.book.Bidder.{Bidder}
use Rattle.market.specs.declared.book.Book.{Book}
use Rattle.market.specs.declared.units.Cents.{Cents}
use Rattle.call_rules.specs.Rule.{Ruling, no_fronts}
use Rattle.call_rules.specs.Rule.Register.{unlent}
use Rattle.call_funding.specs.declared.Funds.{Funds}
use Rattle.call_funding.specs.declared.Funds.TheVariants.{Cash, Letter}

-- rules 5.1, 13.10 and 13.11: the first rows of both: the bidder's number is above 31, or the amount is below 1 cent
abbrev pub funding_refusals : ℕ → Cents → List Row
funding_refusals i amount = (not (ltb i bidder_limit) gives Refusal.Bidder) ∷ (eqb amount.0 0 gives Refusal.Amount) ∷ []

-- rules 3.4 and 5.1: both change one bidder, in either stage, and are lent neither the register nor a list
abbrev pub funding_on : List Row → Book → ℕ → Bidder → Ruling
funding_on own b i after =
    record { lent = []; register = unlent; own = own; outcome = answered (with_bidder b i after); fronts = no_fronts }

-- rules 5.2 and 12.10: how much of an amount is money, which a letter is not
abbrev pub cash_of : Funds → Cents → ℕ
cash_of Cash amount = amount.0
cash_of Letter amount = 0
