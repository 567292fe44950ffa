-- The rule of each of the eleven calls, on its own arguments and lists. Each call's crate names the rules that it states.
use Rattle.call_rules.specs.Rule.{Rule}
use Rattle.call_funding.specs.Deposit.{deposit}
use Rattle.call_funding.specs.Withdraw.{withdraw}
use Rattle.call_open.specs.Open.{«open»}
use Rattle.call_round.specs.Round.{round}
use Rattle.call_pay.specs.Pay.{pay}
use Rattle.call_default.specs.Default.{default}
use Rattle.call_retire.specs.Retire.{retire}
use Rattle.call_rent.specs.Rent.{rent}
use Rattle.call_payout.specs.Payout.{payout}
use Rattle.call_disburse.specs.Disbursement.{disburse, recover}
use Rattle.engine.specs.Lent.{Lent, pool_lists_of}
use Rattle.engine.specs.declared.calls.Call.{Call}
use Rattle.engine.specs.declared.calls.Call.TheVariants.{Deposit, Withdraw, Open, Round, Pay, Default, Retire, Rent, Payout, Disburse, Recover}

-- the rule of a call
abbrev pub rule_of : Call → Lent → Rule
rule_of (Deposit bidder to amount) l = deposit bidder to amount
rule_of (Withdraw bidder from amount) l = withdraw bidder from amount
rule_of (Open kind period) l = «open» kind period l.quantities
rule_of Round l = round l.bids l.answers l.results l.scratch
rule_of (Pay bidder amount) l = pay bidder amount
rule_of (Default bidder) l = default bidder
rule_of (Retire day) l = retire day
rule_of (Rent amount) l = rent amount
rule_of (Payout day failed) l = payout day failed l.prices l.amounts
rule_of (Disburse total) l = disburse total (pool_lists_of l)
rule_of (Recover total) l = recover total (pool_lists_of l)
