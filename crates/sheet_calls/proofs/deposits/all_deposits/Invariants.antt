-- The invariant (`FilledTo`): the first `i` places hold what the first `i` lines ask for, and the others ask for
-- nothing. Each line's bidder is one of a book (`line-listed`), which `deposits_of` requires.
use Rattle.market.specs.Limits.{bidder_limit}
use Rattle.call_funding.proofs.DepositLaws.{nothing_asked}
use Rattle.sheet_calls.specs.Calls.{deposits_of}
use Rattle.sheet_calls.proofs.SlotLaws.{FilledTo}
use Rattle.sheet_calls.proofs.deposits.all_deposits.Given as goal

abbrev pub invariant-loop-i : goal.invariant-loop-i
invariant-loop-i l = FilledTo deposits_of l.lines bidder_limit nothing_asked l.bidders l.i
