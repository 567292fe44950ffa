-- The book is sound when it is fresh and stays so through the deposits, whether they are answered or refused.
use mathlib.Core.Path.{◌≡◌, sym, ap, subst}
use mathlib.Core.List.{List, [], map}
use Prim.Native.Nat.{ℕ}
use native.Mathlib.Omega.{arith}
use lib.ListN.{length-replicate}
use Rattle.market.proofs.Tables.{none-refused}
use Rattle.market.specs.Answers.{answer_number, answered, decided, first_of, Verdict, no_refusal}
use Rattle.market.specs.Fresh.{fresh, fresh_refusals, fresh_book, no_book}
use Rattle.market.specs.Limits.{register_words}
use Rattle.market.specs.declared.book.Book.{Book}
use Rattle.market.specs.declared.book.Route.{Route}
use Rattle.market.specs.declared.units.Cents.{Cents}
use Rattle.call_funding.specs.declared.Funds.{Funds}
use Rattle.call_funding.proofs.FundingLaws.{deposit-lawful}
use Rattle.call_funding.proofs.KeptDeposits.{list-keeps}
use Rattle.call_funding.specs.Deposit.{deposit}
use Rattle.call_rules.proofs.SoundStates.{fresh-state}
use Rattle.call_rules.proofs.StepLaws.{memory_kept}
use Rattle.call_rules.specs.Rule.{Lists, lists}
use Rattle.call_rules.specs.Steps.{no_register, verdict_of, outcome_of, words_after}
use Rattle.call_rules.specs.State.{SoundMemory}
use Rattle.sheet_form.specs.declared.rows.BidderLine.{BidderLine}
use Rattle.sheet_calls.specs.Calls.{deposits_of, deposits, empty_register}

deposit-keeps :
    (words : List ℕ) (b : Book) (bidder : ℕ) (to : Funds) (amount : Cents) → SoundMemory b words
    → SoundMemory (outcome_of (deposit bidder to amount) b no_register).book words
unfolding verdict_of outcome_of words_after deposit
deposit-keeps words b bidder to amount state =
    let none : Lists = lists [] [] [] in
    memory_kept (deposit bidder to amount) none (deposit-lawful bidder to amount none) b words state

pub deposits-keep : (b : Book) (words : List ℕ) (xs : List BidderLine) → SoundMemory b words → SoundMemory (deposits b xs).book words
deposits-keep b words xs state = list-keeps (λ (after : Book). SoundMemory after words) (deposit-keeps words) b (map deposits_of xs) state

-- a fresh book, if the call is answered
pub fresh_keeps : (routes : List Route) (n : ℕ) → answer_number (fresh routes n).answer ≡ 0 → SoundMemory (fresh routes n).book empty_register
unfolding fresh
fresh_keeps routes n taken =
    let refusal = first_of (fresh_refusals routes n) in
    let none : refusal ≡ no_refusal = none-refused no_book refusal (answered (fresh_book routes n)) taken in
    subst (λ (b : Book). SoundMemory b empty_register)
    (sym (ap (λ (v : Verdict). (decided no_book v (answered (fresh_book routes n))).book) none))
    (fresh-state routes n empty_register none (omega (arith, length-replicate {A = ℕ} register_words 0)))
