-- By cases on the part of the table that refuses first: the lent lists, the hour, the account (lent-refuses,
-- hour-refuses, account-decides); in each the list is kept (refusing). Where none does, the rule's answer is given and
-- written (taking). lent-cleared and prices-cleared give what the callees require.
use mathlib.Core.Path.{◌≡◌, refl, sym, ◌∙◌, ap}
use mathlib.Core.Bool.{Bool, true, false, not, cond}
use mathlib.Core.List.{List, ◌++◌}
use Prim.Native.Nat.{ℕ}
use lib.IntN.{pos, ◌-ℤ◌}
use Rattle.std.specs.Prelude.{Err}
use Rattle.market.proofs.SoundLaws.{sound-parts}
use Rattle.market.specs.Answers.{answered, refused, first_of, no_refusal}
use Rattle.market.specs.Books.{balance, with_account, with_front}
use Rattle.market.specs.Sound.{sound_account}
use Rattle.market.specs.declared.answer.Outcome.{Outcome}
use Rattle.market.specs.declared.answer.Refusal.{Refusal}
use Rattle.market.specs.declared.book.Entry.{Entry}
use Rattle.market.specs.declared.units.Balance.{Balance}
use Rattle.register.specs.Refusals.{register_refusals, counted_entries}
use Rattle.call_rules.proofs.Decides.{refuses, list-stays, takes, list-changes}
use Rattle.call_rules.specs.Rule.{Rule}
use Rattle.call_rules.specs.Steps.{verdict_of, outcome_of, list_after, to_amounts}
use Rattle.call_payout.proofs.Cleared.{AllLent, lent-cleared, prices-cleared, lent-refuses, hour-refuses, account-decides}
use Rattle.call_payout.specs.Payout.{amounts_of, account_paying, short_payout_lists, hour_refusals, payout}
use Rattle.call_payout.proofs.payout.Goals.{After-sound, In_default, In_default-check_hour, Start}
use Rattle.call_payout.proofs.payout.Goals as goal

-- what the rule leaves
module _ (s : Start) where
  abbrev rule : Rule
  rule = payout s.args.day s.args.failed s.args.prices.now s.args.lent.now

  abbrev entries : List Entry
  entries = counted_entries s.args.book s.args.words.now

  abbrev Leaves : Outcome → List ℕ → Type 0
  Leaves outcome lent =
      (outcome ≡ outcome_of rule s.args.book s.args.words.now)
      × (lent ≡ list_after to_amounts rule s.args.book s.args.words.now s.args.lent.now)

  refusing : {r : Refusal} → Err r ≡ verdict_of rule s.args.book s.args.words.now → Leaves (refused s.args.book r) s.args.lent.now
  refusing {r} is = (
    refuses rule s.args.book s.args.words.now (Err r) is refl,
    list-stays rule s.args.book s.args.words.now (Err r) is refl to_amounts s.args.lent.now,
  )

  taking :
      no_refusal ≡ verdict_of rule s.args.book s.args.words.now
      → Leaves (answered (with_account s.args.book (account_paying s.args.book s.args.day s.args.failed s.args.prices.now entries)))
      (with_front (amounts_of s.args.book s.args.day s.args.failed s.args.prices.now entries) s.args.lent.now)
  unfolding payout
  taking is = (
    takes rule s.args.book s.args.words.now no_refusal is refl,
    list-changes rule s.args.book s.args.words.now no_refusal is refl to_amounts s.args.lent.now,
  )

-- nothing lent is refused
module _ (p : In_default) where
  abbrev start : Start
  start = (goal.at.In_default p).Start

  none : first_of (short_payout_lists start.args.prices.now start.args.lent.now ++ register_refusals start.args.book start.args.words.now) ≡ no_refusal
  none = sym p.check_lent.ensures ∙ p.in_default.is

  lent : AllLent start.args.book start.args.words.now start.args.prices.now start.args.lent.now
  lent = lent-cleared _ _ start.args.day start.args.failed _ _ none

-- nor the hour
module _ (p : In_default-check_hour) where
  abbrev passed : In_default
  passed = (goal.at.In_default-check_hour p).In_default

  hour-none : first_of (hour_refusals (start passed).args.day (start passed).args.failed (start passed).args.prices.now) ≡ no_refusal
  hour-none = sym p.check_hour.ensures ∙ p.in_default-check_hour.is

-- the account's test decides
module _ (p : After-sound) where
  abbrev clear : In_default-check_hour
  clear = (goal.at.After-sound p).In_default-check_hour

  abbrev s : Start
  s = start (passed clear)

  after : p.minus-after.result ≡ balance (account_paying s.args.book s.args.day s.args.failed s.args.prices.now (entries s))
  after = p.minus-after.ensures ∙ ap (λ (n : ℕ). balance (s.args.book.account.0 -ℤ pos n)) p.amounts_of-sums.ensures.total_value

  verdict : (t : Bool) → p.sound.result ≡ t → cond (not t) (Err Refusal.Account) no_refusal ≡ verdict_of (rule s) s.args.book s.args.words.now
  verdict t is =
      let tested = ap (λ (z : Balance). sound_account z.0) (sym after) ∙ sym p.sound.ensures ∙ is in
      sym (ap (λ (t : Bool). cond (not t) (Err Refusal.Account) no_refusal) tested)
      ∙ account-decides s.args.book s.args.words.now s.args.day s.args.failed s.args.prices.now s.args.lent.now (none (passed clear)) (hour-none clear)

pub returns-in-Err : goal.returns-in-Err
returns-in-Err c =
    let a = c.args in
    let both = refusing (goal.at.returns-in-Err c).Start
    (lent-refuses a.book a.words.now a.day a.failed a.prices.now a.lent.now (sym c.check_lent.ensures ∙ c.in-Err.is)) in
    record { outcome = both.0; amounts = both.1 }

pub returns-in-Err-check_hour : goal.returns-in-Err-check_hour
returns-in-Err-check_hour c =
    let at = goal.at.returns-in-Err-check_hour c in
    let a = c.args in
    let both = refusing at.Start
    (hour-refuses a.book a.words.now a.day a.failed a.prices.now a.lent.now (none at.In_default) (sym c.check_hour.ensures ∙ c.in-Err-check_hour.is)) in
    record { outcome = both.0; amounts = both.1 }

pub amounts_of-sums-requires : goal.amounts_of-sums-requires
amounts_of-sums-requires c =
    let at = goal.at.amounts_of-sums-requires c in
    let a = c.args in
    record {
      lent_register = (lent at.In_default).register;
      prices_value = prices-cleared a.book a.words.now a.day a.failed a.prices.now a.lent.now (hour-none at.In_default-check_hour);
    }

pub minus-after-requires : goal.minus-after-requires
minus-after-requires c =
    let p = (goal.at.minus-after-requires c).In_default in
    record {
      account_value = (sound-parts c.args.book (lent p).register.sound).account;
      amount_le_account_limit = c.amounts_of-sums.ensures.total_le_account_limit;
    }

pub returns-then-not-sound : goal.returns-then-not-sound
returns-then-not-sound c =
    let at = goal.at.returns-then-not-sound c in
    let both = refusing at.Start (verdict at.After-sound false c.if-not-sound.true) in
    record { outcome = both.0; amounts = both.1 }

pub returns : goal.returns
returns c =
    let p = (goal.at.returns c).After-sound in
    let both = taking (s p) (verdict p true c.if-not-sound.false) in record {
      outcome = ap answered (c.with_account.ensures ∙ ap (λ (z : Balance). with_account c.args.book z.0) (after p)) ∙ both.0;
      amounts = c.write_amounts.ensures
          ∙ ap (λ (l : List ℕ). with_front l c.args.lent.now) c.amounts_of-sums.ensures.amounts_value
          ∙ both.1;
    }

pub check_hour-requires : goal.check_hour-requires
check_hour-requires c = (lent (goal.at.check_hour-requires c).In_default).prices-long

pub write_amounts-requires : goal.write_amounts-requires
write_amounts-requires c = (lent (goal.at.write_amounts-requires c).In_default).amounts-long
