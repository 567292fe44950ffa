-- Deposits one after another, by the rule of each, as a sheet makes them for its bidders: rules 14.6 and 14.7.
use Rattle.std.specs.Prelude.{Result, Ok, Err, Bool, ◌&&◌, List, [], ◌∷◌, ℕ, zero, suc, eqb}
use Rattle.market.specs.Answers.{answered}
use Rattle.market.specs.Books.{cents}
use Rattle.market.specs.declared.answer.Answer.{Answer}
use Rattle.market.specs.declared.answer.Outcome.{Outcome}
use Rattle.market.specs.declared.answer.Refusal.{Refusal}
use Rattle.market.specs.declared.book.Book.{Book}
use Rattle.call_rules.specs.Steps.{no_register, outcome_of}
use Rattle.call_funding.specs.Deposit.{deposit}
use Rattle.call_funding.specs.declared.Funds.{Funds}
use Rattle.call_funding.specs.declared.Funds.TheVariants.{Cash, Letter}
use Rattle.call_funding.specs.declared.BidderDeposits.{BidderDeposits}

-- rule 14.7: a call after others is made only if they were answered
abbrev pub unless_refused : Result Answer Refusal → Outcome → Outcome → Outcome
unless_refused (Ok answer) done next = next
unless_refused (Err refusal) done next = done

abbrev pub and_then : Outcome → (Book → Outcome) → Outcome
and_then done next = unless_refused done.answer done (next done.book)

-- rule 14.6: no deposit is made where the amount is 0
abbrev pub deposit_if : ℕ → Book → ℕ → Funds → Outcome
deposit_if zero b bidder to = answered b
deposit_if (suc n) b bidder to = outcome_of (deposit bidder to (cents (suc n))) b no_register

-- rule 14.6: a bidder's deposits: cash, and then letter
abbrev pub bidder_deposits : Book → BidderDeposits → Outcome
bidder_deposits b x =
    and_then (deposit_if x.cash.0 b x.bidder Cash) (λ after. deposit_if x.letter.0 after x.bidder Letter)

-- rules 14.6 and 14.7: those of each bidder of a list; the first refusal ends them. Where no deposit is asked for none is made, and the book is
-- not tested
abbrev pub list_deposits : Book → List BidderDeposits → Outcome
list_deposits b [] = answered b
list_deposits b (x ∷ xs) = and_then (bidder_deposits b x) (λ after. list_deposits after xs)

-- whether no deposit is asked for
abbrev pub no_deposit : BidderDeposits → Bool
no_deposit x = eqb x.cash.0 0 && eqb x.letter.0 0
