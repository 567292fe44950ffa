-- The invariant: the deposits of all bidders are those of the bidders from `i` on, made from the book `now`, and that
-- book is sound. A refused deposit ends both code and rule (`bidder-refused`); answered ones go on (`bidder-done`) and
-- keep the book sound (`both-keep`).
use Rattle.call_funding.proofs.DepositLaws.{DepositsTo}
use Rattle.call_funding.proofs.KeptDeposits.{Sound}
use Rattle.call_funding.proofs.deposits.deposit_each.Given as goal

abbrev pub invariant-loop-i : goal.invariant-loop-i
invariant-loop-i l = DepositsTo l.initial.now l.bidders l.count l.now l.i × Sound l.now
