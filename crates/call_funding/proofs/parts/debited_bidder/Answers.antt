-- By cases on cash or letter: the amount is at most what may be withdrawn, so the subtraction does not go below 0, and
-- the bidder that the callee ensures is the rule's.
use native.Mathlib.Omega.{arith}
use Rattle.call_funding.proofs.parts.debited_bidder.Goals as goal

pub overflow_sub-cash : goal.overflow_sub-cash
overflow_sub-cash c = rw c.in-Cash.is at c.requires.amount_bound

pub overflow_sub-letter : goal.overflow_sub-letter
overflow_sub-letter c =
    let most = rw c.in-Letter.is at c.requires.amount_bound in
    omega arith

pub returns-in-Cash : goal.returns-in-Cash
returns-in-Cash c = rw c.in-Cash.is c.with_cash.ensures

pub returns-in-Letter : goal.returns-in-Letter
returns-in-Letter c = rw c.in-Letter.is c.with_letter.ensures
