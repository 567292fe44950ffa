-- What is known of the arguments of deposit and withdraw where their refusals do not hold.
use mathlib.Core.Path.{◌≡◌}
use mathlib.Core.Bool.{true, not}
use mathlib.Core.List.{[], ◌∷◌}
use Prim.Native.Nat.{ℕ, ◌≤◌, ◌<◌}
use lib.Dec.{leb, ltb}
use borrow.Author.Tests.{not-false, leb-true, ltb-true}
use Rattle.market.proofs.Tables.{none-hold, neither-holds}
use Rattle.market.specs.Answers.{◌gives◌, first_of, no_refusal}
use Rattle.market.specs.Books.{bidder_of}
use Rattle.market.specs.Limits.{bidder_limit}
use Rattle.market.specs.declared.answer.Refusal.{Refusal}
use Rattle.market.specs.declared.book.Book.{Book}
use Rattle.market.specs.declared.units.Cents.{Cents}
use Rattle.call_funding.specs.declared.Funds.{Funds}
use Rattle.call_funding.specs.Deposit.{has_room, deposit_refusals}
use Rattle.call_funding.specs.Funding.{funding_refusals}
use Rattle.call_funding.specs.Withdraw.{withdrawable, withdraw_refusals}

-- both: the number of one of the book's bidders
pub number-cleared : (i : ℕ) (amount : Cents) → first_of (funding_refusals i amount) ≡ no_refusal → i < bidder_limit
number-cleared i amount h =
    ltb-true i bidder_limit (not-false (ltb i bidder_limit) (none-hold (funding_refusals i amount) h).0)

module _ (b : Book) (i : ℕ) (funds : Funds) (amount : Cents) where
  pub deposit-cleared : first_of (deposit_refusals b i funds amount) ≡ no_refusal → (i < bidder_limit) × (has_room (bidder_of b i) funds amount ≡ true)
  deposit-cleared h =
      let room = has_room (bidder_of b i) funds amount in
      let parts = neither-holds (funding_refusals i amount) ((not room gives Refusal.Amount) ∷ []) h in
      (number-cleared i amount parts.0, not-false room (none-hold ((not room gives Refusal.Amount) ∷ []) parts.1).0)

  pub withdraw-cleared : first_of (withdraw_refusals b i funds amount) ≡ no_refusal → (i < bidder_limit) × (amount.0 ≤ withdrawable (bidder_of b i) funds)
  withdraw-cleared h =
      let most = withdrawable (bidder_of b i) funds in
      let within = leb amount.0 most in
      let parts = neither-holds (funding_refusals i amount) ((not within gives Refusal.Withdrawal) ∷ []) h in (
        number-cleared i amount parts.0,
        leb-true amount.0 most (not-false within (none-hold ((not within gives Refusal.Withdrawal) ∷ []) parts.1).0),
      )
