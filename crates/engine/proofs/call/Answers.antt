-- By cases on the eleven calls: the rule of the case is the callee's own, and what the callee is not lent is as it was by
-- definition. Only a round touches the scratch.
use mathlib.Core.Path.{◌≡◌, refl}
use mathlib.Core.List.{List}
use Prim.Native.Nat.{ℕ}
use Rattle.market.specs.declared.answer.Outcome.{Outcome}
use Rattle.call_rules.specs.Rule.{lists}
use Rattle.call_rules.specs.Steps.{verdict_of, outcome_of, words_after, list_after, ScratchAfter, leaving}
use Rattle.call_funding.specs.Deposit.{deposit}
use Rattle.call_funding.specs.Withdraw.{withdraw}
use Rattle.call_open.specs.Open.{«open»}
use Rattle.call_round.specs.Round.{round}
use Rattle.call_pay.specs.Pay.{pay}
use Rattle.call_default.specs.Default.{default}
use Rattle.call_retire.specs.Retire.{retire}
use Rattle.call_rent.specs.Rent.{rent}
use Rattle.call_payout.specs.Payout.{payout}
use Rattle.call_disburse.specs.Disbursement.{settle}
use Rattle.engine.proofs.call.Goals as goal

-- what is left, part by part
left-same :
    {o done : Outcome} {words after amounts shared answers told results sold : List ℕ} → o ≡ done → words ≡ after → amounts ≡ shared
    → answers ≡ told → results ≡ sold
    → leaving o words (lists amounts answers results) ≡ leaving done after (lists shared told sold)
left-same outcome register first second third = λ i. leaving (outcome i) (register i) (lists (first i) (second i) (third i))

pub returns-in-Deposit : goal.returns-in-Deposit
unfolding outcome_of verdict_of words_after list_after ScratchAfter deposit
returns-in-Deposit c = rw c.in-Deposit.is (record { by-rule = left-same c.deposit.ensures refl refl refl refl; scratch-left = refl })

pub returns-in-Withdraw : goal.returns-in-Withdraw
unfolding outcome_of verdict_of words_after list_after ScratchAfter withdraw
returns-in-Withdraw c = rw c.in-Withdraw.is (record { by-rule = left-same c.withdraw.ensures refl refl refl refl; scratch-left = refl })

pub returns-in-Open : goal.returns-in-Open
unfolding outcome_of verdict_of words_after list_after ScratchAfter «open»
returns-in-Open c = rw c.in-Open.is (record { by-rule = left-same c.«open».ensures refl refl refl refl; scratch-left = refl })

pub returns-in-Round : goal.returns-in-Round
unfolding words_after list_after ScratchAfter round
returns-in-Round c =
    let done = c.round.ensures in
    rw c.in-Round.is
    (record { by-rule = left-same done.outcome done.register refl done.bids done.paths; scratch-left = done.scratch })

pub returns-in-Pay : goal.returns-in-Pay
unfolding outcome_of verdict_of words_after list_after ScratchAfter pay
returns-in-Pay c =
    let done = c.pay.ensures in
    rw c.in-Pay.is (record { by-rule = left-same done.outcome done.words refl refl refl; scratch-left = refl })

pub returns-in-Default : goal.returns-in-Default
unfolding outcome_of verdict_of words_after list_after ScratchAfter default
returns-in-Default c =
    let done = c.default.ensures in
    rw c.in-Default.is (record { by-rule = left-same done.outcome done.words refl refl refl; scratch-left = refl })

pub returns-in-Retire : goal.returns-in-Retire
unfolding outcome_of verdict_of words_after list_after ScratchAfter retire
returns-in-Retire c =
    let done = c.retire.ensures in
    rw c.in-Retire.is (record { by-rule = left-same done.outcome done.words refl refl refl; scratch-left = refl })

pub returns-in-Rent : goal.returns-in-Rent
unfolding outcome_of verdict_of words_after list_after ScratchAfter rent
returns-in-Rent c = rw c.in-Rent.is (record { by-rule = left-same c.rent.ensures refl refl refl refl; scratch-left = refl })

pub returns-in-Payout : goal.returns-in-Payout
unfolding outcome_of verdict_of words_after list_after ScratchAfter payout
returns-in-Payout c =
    let done = c.payout.ensures in
    rw c.in-Payout.is (record { by-rule = left-same done.outcome refl done.amounts refl refl; scratch-left = refl })

pub returns-in-Disburse : goal.returns-in-Disburse
unfolding outcome_of verdict_of words_after list_after ScratchAfter settle
returns-in-Disburse c =
    let done = c.disburse.ensures in
    rw c.in-Disburse.is (record { by-rule = left-same done.outcome refl done.shares refl refl; scratch-left = refl })

pub returns-in-Recover : goal.returns-in-Recover
unfolding outcome_of verdict_of words_after list_after ScratchAfter settle
returns-in-Recover c =
    let done = c.recover.ensures in
    rw c.in-Recover.is (record { by-rule = left-same done.outcome refl done.shares refl refl; scratch-left = refl })
