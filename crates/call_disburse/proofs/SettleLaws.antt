-- The rule of disburse and recover is lawful: it keeps a sound state, and the shares go out or come in.
use mathlib.Core.Path.{◌≡◌, refl, sym, ◌∙◌, ap}
use mathlib.Core.Bool.{true}
use mathlib.Core.List.{List}
use Prim.Native.Nat.{ℕ}
use native.Mathlib.Omega.{arith}
use lib.IntN.{pos, ◌+ℤ◌, ◌-ℤ◌}
use lib.ListN.{take}
use borrow.Author.Tests.{not-false}
use Rattle.market.proofs.SoundLaws.{sound-parts}
use Rattle.market.proofs.Tables.{none-hold, neither-holds}
use Rattle.market.specs.Answers.{first_of, no_refusal}
use Rattle.market.specs.Books.{with_account, with_front}
use Rattle.market.specs.Limits.{bidder_limit}
use Rattle.market.specs.Sound.{sound_account}
use Rattle.market.specs.declared.book.Book.{Book}
use Rattle.market.specs.declared.book.Entry.{Entry}
use Rattle.market.specs.declared.units.Cents.{Cents}
use Rattle.market.specs.declared.answer.Refusal.{Refusal}
use Rattle.lent_lists.proofs.Written.{put-listed}
use Rattle.pool_sharing.specs.Sharing.{total}
use Rattle.pool_columns.specs.Pools.{shares_of, column_refusals}
use Rattle.call_rules.proofs.Decides.{Cleared}
use Rattle.call_rules.proofs.Lawful.{Moved, Lawful, reply_to, refused_with}
use Rattle.call_rules.proofs.SoundStates.{account-kept}
use Rattle.call_rules.specs.State.{SoundState}
use Rattle.call_rules.proofs.Sums.{gained, paid-out}
use Rattle.call_rules.specs.Money.{cash_held, worth}
use Rattle.call_rules.specs.Rule.{Lists}
use Rattle.call_disburse.proofs.Accounts.{taken-sound, added-sound}
use Rattle.call_disburse.proofs.Cleared.{shares-cleared}
use Rattle.call_disburse.specs.Disbursement.{PoolLists, columns_of, account_after_flow, within_bound, total_refusals, shares_out, shares_in, settle}
use Rattle.call_disburse.specs.declared.flow.Flow.{Flow}
use Rattle.call_disburse.specs.declared.flow.Flow.TheVariants.{Out, In}

-- the bound on the account keeps it within its limit
bound-sound : (flow : Flow) (b : Book) (d : Cents) → sound_account b.account.0 ≡ true → within_bound flow (account_after_flow flow b d) ≡ true → sound_account (account_after_flow flow b d) ≡ true
bound-sound Out b d sound h = taken-sound b.account.0 d.0 sound h
bound-sound In b d sound h = added-sound b.account.0 d.0 sound h

-- no money moves with a refusal
none_in : (flow : Flow) (r : Refusal) (lists : Lists) → shares_in flow (refused_with r lists) ≡ 0
none_in Out r lists = refl
none_in In r lists = refl

none_out : (flow : Flow) (r : Refusal) (lists : Lists) → shares_out flow (refused_with r lists) ≡ 0
none_out Out r lists = refl
none_out In r lists = refl

module _ (d : Cents) (l : PoolLists) (lists : Lists) where
  -- where no row holds: the account is within its bound, the columns are not refused, and the list tells the total
  module _ (flow : Flow) (b : Book) (es : List Entry) (clear : Cleared ((settle flow d l).on b es)) where
    own-parts : (first_of (total_refusals flow b d) ≡ no_refusal) × (first_of (column_refusals d.0 (columns_of l)) ≡ no_refusal)
    unfolding settle
    own-parts = neither-holds (total_refusals flow b d) (column_refusals d.0 (columns_of l)) clear.own

    settle-keeps : SoundState b es → SoundState (with_account b (account_after_flow flow b d)) es
    settle-keeps state =
        let bound = within_bound flow (account_after_flow flow b d) in
        account-kept b es (account_after_flow flow b d) state
        (bound-sound flow b d (sound-parts b state.sound).account (not-false bound (none-hold (total_refusals flow b d) own-parts.0).1.1.0))

    -- the first 32 words of the list that is left are the shares, which add up to the total
    listed-total : total (take bidder_limit (with_front (shares_of d.0 (columns_of l)) lists.amounts)) ≡ d.0
    unfolding settle
    listed-total =
        let sum = shares-cleared d l clear.lent own-parts.1 in
        put-listed (shares_of d.0 (columns_of l)) lists.amounts sum.0 ∙ sum.1

  settle-moves :
      (flow : Flow) (b : Book) (es : List Entry) → Cleared ((settle flow d l).on b es)
      → Moved b (with_account b (account_after_flow flow b d)) (shares_in flow (reply_to ((settle flow d l).on b es) lists)) (shares_out flow (reply_to ((settle flow d l).on b es) lists))
  unfolding settle
  settle-moves Out b es clear =
      paid-out b.account.0 (cash_held b) d.0 ∙ ap (λ (n : ℕ). worth b +ℤ pos 0 -ℤ pos n) (sym (listed-total Out b es clear))
  settle-moves In b es clear =
      gained b.account.0 (cash_held b) (cash_held b) d.0 d.0 (omega arith)
      ∙ ap (λ (n : ℕ). worth b +ℤ pos n -ℤ pos 0) (sym (listed-total In b es clear))

  pub settle-lawful : (flow : Flow) → Lawful (settle flow d l) lists
  unfolding settle
  settle-lawful flow =
      record {
        lent-rows = λ b es. refl;
        own-rows = λ b es. refl;
        answers = λ b es. refl;
        paths = λ b es. refl;
        none_in = λ n. none_in flow n lists;
        none_out = λ n. none_out flow n lists;
        few = λ b es sound clear. (omega arith, omega arith);
        keeps = λ b es state clear. settle-keeps flow b es clear state;
        moves = λ b es state clear. settle-moves flow b es clear;
      }
