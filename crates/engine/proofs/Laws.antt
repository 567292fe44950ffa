-- The rule of each call is lawful, as its own crate proves.
use Rattle.call_rules.proofs.Lawful.{Lawful}
use Rattle.call_funding.proofs.FundingLaws.{deposit-lawful, withdraw-lawful}
use Rattle.call_open.proofs.OpenLaws.{open-lawful}
use Rattle.call_round.proofs.RoundLawful.{round-lawful}
use Rattle.call_pay.proofs.PayLaws.{pay-lawful}
use Rattle.call_default.proofs.DefaultLaws.{default-lawful}
use Rattle.call_retire.proofs.RetireLaws.{retire-lawful}
use Rattle.call_rent.proofs.RentLaws.{rent-lawful}
use Rattle.call_payout.proofs.PayoutLaws.{payout-lawful}
use Rattle.call_disburse.proofs.SettleLaws.{settle-lawful}
use Rattle.call_disburse.specs.declared.flow.Flow.TheVariants.{Out, In}
use Rattle.engine.specs.Lent.{Lent, pool_lists_of, lists_of}
use Rattle.engine.specs.Rules.{rule_of}
use Rattle.engine.specs.declared.calls.Call.{Call}
use Rattle.engine.specs.declared.calls.Call.TheVariants.{Deposit, Withdraw, Open, Round, Pay, Default, Retire, Rent, Payout, Disburse, Recover}

pub lawful : (what : Call) (l : Lent) → Lawful (rule_of what l) (lists_of l)
lawful (Deposit bidder to amount) l = deposit-lawful bidder to amount (lists_of l)
lawful (Withdraw bidder from amount) l = withdraw-lawful bidder from amount (lists_of l)
lawful (Open kind period) l = open-lawful kind period l.quantities (lists_of l)
lawful Round l = round-lawful l.bids (lists_of l) l.scratch
lawful (Pay bidder amount) l = pay-lawful bidder amount (lists_of l)
lawful (Default bidder) l = default-lawful bidder (lists_of l)
lawful (Retire day) l = retire-lawful day (lists_of l)
lawful (Rent amount) l = rent-lawful amount (lists_of l)
lawful (Payout day failed) l = payout-lawful day failed l.prices l.amounts (lists_of l)
lawful (Disburse total) l = settle-lawful total (pool_lists_of l) (lists_of l) Out
lawful (Recover total) l = settle-lawful total (pool_lists_of l) (lists_of l) In
