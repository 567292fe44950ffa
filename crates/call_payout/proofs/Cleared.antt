-- What is known where payout's refusals do not hold, and what its table gives, part by part.
use mathlib.Core.Path.{◌≡◌, sym, ◌∙◌}
use mathlib.Core.Bool.{Bool, true}
use mathlib.Core.List.{List, ◌++◌}
use Prim.Native.Nat.{ℕ, ◌≤◌}
use lib.Dec.{leb}
use lib.IntN.{ℤ}
use lib.ListN.{length}
use borrow.Author.Tests.{not-false, leb-true}
use Rattle.std.specs.Prelude.{Err}
use Rattle.market.proofs.Tables.{none-hold, neither-holds, second-decides}
use Rattle.market.specs.Answers.{first_of, no_refusal}
use Rattle.market.specs.Limits.{bidder_limit, zones}
use Rattle.market.specs.declared.answer.Refusal.{Refusal}
use Rattle.market.specs.declared.book.Book.{Book}
use Rattle.market.specs.declared.units.Day.{Day}
use Rattle.call_rules.proofs.Decides.{first-refuses}
use Rattle.register.proofs.Cleared.{register-cleared}
use Rattle.register.specs.Refusals.{register_refusals, counted_entries, LentRegister}
use Rattle.call_rules.specs.Steps.{verdict_of}
use Rattle.call_payout.specs.Payout.{sound_prices, short_payout_lists, hour_refusals, account_refusals, payout}

-- the lent lists are long enough, and the lent register is long enough and sound
pub record AllLent (b : Book) (words : List ℕ) (prices : List ℤ) (amounts : List ℕ) : Type 0 where
  pub prices-long : zones ≤ length prices
  pub amounts-long : bidder_limit ≤ length amounts
  pub register : LentRegister b words

module _ (b : Book) (words : List ℕ) (day : Day) (failed : Bool) (prices : List ℤ) (amounts : List ℕ) where
  pub lent-cleared : first_of (short_payout_lists prices amounts ++ register_refusals b words) ≡ no_refusal → AllLent b words prices amounts
  lent-cleared h =
      let parts = neither-holds (short_payout_lists prices amounts) (register_refusals b words) h in
      let first = leb zones (length prices) in
      let second = leb bidder_limit (length amounts) in
      let none = none-hold (short_payout_lists prices amounts) parts.0 in
      record {
        prices-long = leb-true zones (length prices) (not-false first none.0);
        amounts-long = leb-true bidder_limit (length amounts) (not-false second none.1.0);
        register = register-cleared b words parts.1;
      }

  pub prices-cleared : first_of (hour_refusals day failed prices) ≡ no_refusal → sound_prices failed prices ≡ true
  prices-cleared h =
      let sound = sound_prices failed prices in
      not-false sound (none-hold (hour_refusals day failed prices) h).1.0

  -- which part of the table decides
  pub lent-refuses :
      {r : Refusal} → first_of (short_payout_lists prices amounts ++ register_refusals b words) ≡ Err r
      → Err r ≡ verdict_of (payout day failed prices amounts) b words
  unfolding verdict_of payout
  lent-refuses h =
      (first-refuses (short_payout_lists prices amounts ++ register_refusals b words)
      (hour_refusals day failed prices ++ account_refusals b (counted_entries b words) day failed prices) h)

  module _ (none : first_of (short_payout_lists prices amounts ++ register_refusals b words) ≡ no_refusal) where
    rest : verdict_of (payout day failed prices amounts) b words ≡ first_of (hour_refusals day failed prices ++ account_refusals b (counted_entries b words) day failed prices)
    unfolding verdict_of payout
    rest =
        second-decides (short_payout_lists prices amounts ++ register_refusals b words)
        (hour_refusals day failed prices ++ account_refusals b (counted_entries b words) day failed prices) none

    pub hour-refuses : {r : Refusal} → first_of (hour_refusals day failed prices) ≡ Err r → Err r ≡ verdict_of (payout day failed prices amounts) b words
    hour-refuses h =
        first-refuses (hour_refusals day failed prices) (account_refusals b (counted_entries b words) day failed prices) h ∙ sym rest

    pub account-decides :
        first_of (hour_refusals day failed prices) ≡ no_refusal
        → first_of (account_refusals b (counted_entries b words) day failed prices) ≡ verdict_of (payout day failed prices amounts) b words
    account-decides h =
        sym (rest ∙ second-decides (hour_refusals day failed prices) (account_refusals b (counted_entries b words) day failed prices) h)
