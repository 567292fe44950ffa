-- What is known of default's arguments where its refusals do not hold.
use mathlib.Core.Path.{◌≡◌}
use mathlib.Core.Bool.{true}
use mathlib.Core.List.{List}
use Prim.Native.Nat.{ℕ, ◌<◌}
use lib.Dec.{ltb}
use borrow.Author.Tests.{not-false, ltb-true}
use Rattle.market.proofs.Tables.{none-hold}
use Rattle.market.specs.Answers.{first_of, no_refusal}
use Rattle.market.specs.Limits.{bidder_limit}
use Rattle.market.specs.Sound.{sound_account}
use Rattle.market.specs.declared.book.Book.{Book}
use Rattle.register.specs.Refusals.{LentRegister}
use Rattle.call_rules.proofs.Decides.{known, cleared}
use Rattle.call_rules.specs.Steps.{verdict_of}
use Rattle.call_default.specs.Default.{account_forfeited, default_refusals, default}

-- default's own rows: the number is a bidder's, and the account has room
pub record Defaulting (b : Book) (i : ℕ) : Type 0 where
  pub number : i < bidder_limit
  pub account : sound_account (account_forfeited b i) ≡ true

pub defaulting : (b : Book) (i : ℕ) → first_of (default_refusals b i) ≡ no_refusal → Defaulting b i
defaulting b i h =
    let none = none-hold (default_refusals b i) h in
    record {
      number = ltb-true i bidder_limit (not-false (ltb i bidder_limit) none.1.0);
      account = not-false (sound_account (account_forfeited b i)) none.1.1.1.0;
    }

-- the whole table: the lent register is long enough and sound besides
pub default-cleared : (b : Book) (words : List ℕ) (i : ℕ) → verdict_of (default i) b words ≡ no_refusal → LentRegister b words × (i < bidder_limit)
unfolding default
default-cleared b words i h =
    (known (default i) b words h, (defaulting b i (cleared (default i) b words h).own).number)
