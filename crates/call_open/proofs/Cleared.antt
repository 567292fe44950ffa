-- What is known where open's refusals do not hold.
use mathlib.Core.Path.{◌≡◌}
use mathlib.Core.Bool.{true}
use mathlib.Core.List.{List, ◌++◌}
use Prim.Native.Nat.{ℕ, ◌≤◌}
use lib.Dec.{leb}
use lib.ListN.{length, take}
use borrow.Author.Tests.{not-false, leb-true}
use Rattle.market.proofs.Tables.{none-hold, neither-holds}
use Rattle.market.specs.Answers.{first_of, no_refusal}
use Rattle.market.specs.Books.{every, no_value}
use Rattle.market.specs.Sound.{sound_period, sound_quantity}
use Rattle.market.specs.declared.book.Book.{Book}
use Rattle.market.specs.declared.book.Kind.{Kind}
use Rattle.market.specs.declared.book.Period.{Period}
use Rattle.register.proofs.Cleared.{register-cleared}
use Rattle.register.specs.Refusals.{register_refusals, LentRegister}
use Rattle.call_rules.specs.Steps.{verdict_of}
use Rattle.call_open.specs.OpenedPaths.{words_needed}
use Rattle.call_open.specs.Open.{short_quantities, open_refusals, «open»}

-- there are quantities for each path, and the lent register is long enough and sound
pub record AllLent (b : Book) (words quantities : List ℕ) : Type 0 where
  pub long : words_needed b ≤ length quantities
  pub register : LentRegister b words

pub lent-cleared : (b : Book) (words quantities : List ℕ) → first_of (short_quantities b quantities ++ register_refusals b words) ≡ no_refusal → AllLent b words quantities
lent-cleared b words quantities h =
    let parts = neither-holds (short_quantities b quantities) (register_refusals b words) h in
    let enough = leb (words_needed b) (length quantities) in
    record {
      long = leb-true (words_needed b) (length quantities) (not-false enough (none-hold (short_quantities b quantities) parts.0).0);
      register = register-cleared b words parts.1;
    }

-- and where the whole of open is not refused
pub open-cleared : (b : Book) (words : List ℕ) (kind : Kind) (period : Period) (quantities : List ℕ) → verdict_of («open» kind period quantities) b words ≡ no_refusal → AllLent b words quantities
unfolding verdict_of «open»
open-cleared b words kind period quantities h =
    lent-cleared b words quantities (neither-holds (short_quantities b quantities ++ register_refusals b words) (open_refusals b period quantities) h).0

-- open's own rows: no bidder has a value, and the days and the quantities are within their limits
pub record Openable (b : Book) (period : Period) (quantities : List ℕ) : Type 0 where
  pub values : every no_value b.bidders ≡ true
  pub days : sound_period period ≡ true
  pub quantity : every sound_quantity (take (words_needed b) quantities) ≡ true

pub openable : (b : Book) (period : Period) (quantities : List ℕ) → first_of (open_refusals b period quantities) ≡ no_refusal → Openable b period quantities
openable b period quantities h =
    let none = none-hold (open_refusals b period quantities) h in
    record {
      values = not-false (every no_value b.bidders) none.1.0;
      days = not-false (sound_period period) none.1.1.0;
      quantity = not-false (every sound_quantity (take (words_needed b) quantities)) none.1.1.1.0;
    }
