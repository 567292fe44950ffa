-- What is known of pay's arguments where its refusals do not hold.
use mathlib.Core.Path.{◌≡◌}
use mathlib.Core.Bool.{true}
use mathlib.Core.List.{List}
use Prim.Native.Nat.{ℕ, ◌<◌}
use lib.Dec.{ltb, eqb}
use borrow.Author.Tests.{not-false, ltb-true, eqb-true}
use Rattle.market.proofs.Tables.{none-hold}
use Rattle.market.specs.Answers.{first_of, no_refusal}
use Rattle.market.specs.Books.{bidder_of}
use Rattle.market.specs.Limits.{bidder_limit}
use Rattle.market.specs.Sound.{sound_account}
use Rattle.market.specs.declared.book.Book.{Book}
use Rattle.market.specs.declared.units.Cents.{Cents}
use Rattle.register.specs.Refusals.{LentRegister}
use Rattle.call_rules.proofs.Decides.{known, cleared}
use Rattle.call_rules.specs.Steps.{verdict_of}
use Rattle.call_pay.specs.Pay.{account_paid, pay_refusals, pay}

-- pay's own rows: the number is a bidder's, the payment is what it owes, and the account has room
pub record Payable (b : Book) (i : ℕ) (amount : Cents) : Type 0 where
  pub number : i < bidder_limit
  pub payment : amount.0 ≡ (bidder_of b i).owed.0
  pub account : sound_account (account_paid b i) ≡ true

pub payable : (b : Book) (i : ℕ) (amount : Cents) → first_of (pay_refusals b i amount) ≡ no_refusal → Payable b i amount
payable b i amount h =
    let none = none-hold (pay_refusals b i amount) h in
    record {
      number = ltb-true i bidder_limit (not-false (ltb i bidder_limit) none.1.0);
      payment = eqb-true amount.0 (bidder_of b i).owed.0 (not-false (eqb amount.0 (bidder_of b i).owed.0) none.1.1.0);
      account = not-false (sound_account (account_paid b i)) none.1.1.1.1.0;
    }

-- the whole table: the lent register is long enough and sound besides
pub pay-cleared : (b : Book) (words : List ℕ) (i : ℕ) (amount : Cents) → verdict_of (pay i amount) b words ≡ no_refusal → LentRegister b words × (i < bidder_limit)
unfolding pay
pay-cleared b words i amount h =
    (known (pay i amount) b words h, (payable b i amount (cleared (pay i amount) b words h).own).number)
