-- What is known of rent's arguments where its refusals do not hold.
use mathlib.Core.Path.{◌≡◌}
use mathlib.Core.Bool.{true}
use Prim.Native.Nat.{◌≤◌}
use lib.Dec.{leb}
use borrow.Author.Tests.{not-false, leb-true}
use Rattle.market.proofs.Tables.{none-hold}
use Rattle.market.specs.Answers.{first_of, no_refusal}
use Rattle.market.specs.Limits.{money_limit}
use Rattle.market.specs.Sound.{sound_book, sound_account}
use Rattle.market.specs.declared.book.Book.{Book}
use Rattle.market.specs.declared.units.Cents.{Cents}
use Rattle.call_rules.proofs.Decides.{known, cleared}
use Rattle.call_rules.specs.Steps.{no_register, verdict_of}
use Rattle.call_rent.specs.Rent.{account_with_rent, rent_refusals, rent}

-- rent's own rows: the amount is within its limit, and the account has room
pub record Rentable (b : Book) (amount : Cents) : Type 0 where
  pub limit : amount.0 ≤ money_limit
  pub account : sound_account (account_with_rent b amount) ≡ true

pub rentable : (b : Book) (amount : Cents) → first_of (rent_refusals b amount) ≡ no_refusal → Rentable b amount
rentable b amount h =
    let none = none-hold (rent_refusals b amount) h in
    record {
      limit = leb-true amount.0 money_limit (not-false (leb amount.0 money_limit) none.1.0);
      account = not-false (sound_account (account_with_rent b amount)) none.1.1.0;
    }

-- the whole table: the book is sound besides
pub rent-cleared : (b : Book) (amount : Cents) → verdict_of (rent amount) b no_register ≡ no_refusal → (sound_book b ≡ true) × (amount.0 ≤ money_limit)
unfolding rent
rent-cleared b amount h =
    (known (rent amount) b no_register h, (rentable b amount (cleared (rent amount) b no_register h).own).limit)
