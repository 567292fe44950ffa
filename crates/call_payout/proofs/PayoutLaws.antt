-- Payout's rule is lawful: it keeps a sound state, and the amounts go out.
use mathlib.Core.Path.{◌≡◌, refl, sym, ◌∙◌, ap}
use mathlib.Core.Bool.{Bool, true}
use mathlib.Core.List.{List, [], ◌∷◌, ◌++◌}
use Prim.Native.Nat.{ℕ}
use native.Mathlib.Omega.{arith}
use lib.IntN.{ℤ, pos, ◌+ℤ◌, ◌-ℤ◌}
use lib.ListN.{length, replicate, length-replicate}
use borrow.Author.Tests.{not-false}
use Rattle.market.proofs.Tables.{none-hold, neither-holds}
use Rattle.market.specs.Answers.{first_of, no_refusal}
use Rattle.market.specs.Books.{credit, with_account}
use Rattle.market.specs.Limits.{bidder_limit}
use Rattle.market.specs.Sound.{sound_account}
use Rattle.market.specs.declared.book.Book.{Book}
use Rattle.market.specs.declared.book.Entry.{Entry}
use Rattle.market.specs.declared.units.Day.{Day}
use Rattle.pool_sharing.specs.Sharing.{total}
use Rattle.lent_lists.proofs.Written.{put-listed}
use Rattle.lent_lists.specs.Amounts.{listed}
use Rattle.call_rules.proofs.Lawful.{Moved, Lawful, reply_to}
use Rattle.call_rules.proofs.SoundStates.{account-kept}
use Rattle.call_rules.proofs.Sums.{paid-out}
use Rattle.call_rules.specs.Money.{cash_held, worth}
use Rattle.call_rules.specs.Rule.{Lists}
use Rattle.call_payout.proofs.EarningLaws.{credit-length}
use Rattle.call_payout.specs.Payout.{earned, credited, amounts_of, account_paying, hour_refusals, account_refusals, payout}

-- there are 32 amounts

credited-length : (earns : Entry → ℕ) (amounts : List ℕ) (es : List Entry) → length (credited earns amounts es) ≡ length amounts
credited-length earns amounts [] = refl
credited-length earns amounts (e ∷ es) =
    credited-length earns (credit amounts e.bidder (earns e)) es ∙ credit-length amounts e.bidder (earns e)

amounts-length : (b : Book) (day : Day) (failed : Bool) (prices : List ℤ) (es : List Entry) → length (amounts_of b day failed prices es) ≡ bidder_limit
unfolding amounts_of
amounts-length b day failed prices es =
    credited-length (earned b day failed prices) (replicate bidder_limit 0) es ∙ length-replicate {A = ℕ} bidder_limit 0

module _ (day : Day) (failed : Bool) (prices : List ℤ) (amounts : List ℕ) (lists : Lists) where
  -- the account stays within its limit where payout is answered
  account-within :
      (b : Book) (es : List Entry) → first_of (hour_refusals day failed prices ++ account_refusals b es day failed prices) ≡ no_refusal
      → sound_account (account_paying b day failed prices es) ≡ true
  account-within b es h =
      let last = account_refusals b es day failed prices in
      not-false (sound_account (account_paying b day failed prices es)) (none-hold last (neither-holds (hour_refusals day failed prices) last h).1).0

  -- what the account pays is what the list then tells
  payout-moves : (b : Book) (es : List Entry) → Moved b (with_account b (account_paying b day failed prices es)) 0 (listed (reply_to ((payout day failed prices amounts).on b es) lists))
  unfolding payout
  payout-moves b es =
      paid-out b.account.0 (cash_held b) (total (amounts_of b day failed prices es))
      ∙ ap (λ (n : ℕ). worth b +ℤ pos 0 -ℤ pos n) (sym (put-listed (amounts_of b day failed prices es) lists.amounts (amounts-length b day failed prices es)))

  pub payout-lawful : Lawful (payout day failed prices amounts) lists
  unfolding payout
  payout-lawful =
      record {
        lent-rows = λ b es. refl;
        own-rows = λ b es. refl;
        answers = λ b es. refl;
        paths = λ b es. refl;
        none_in = λ r. refl;
        none_out = λ r. refl;
        few = λ b es sound clear. (omega arith, omega arith);
        keeps = λ b es state clear. account-kept b es (account_paying b day failed prices es) state (account-within b es clear.own);
        moves = λ b es state clear. payout-moves b es;
      }
