-- The invariant (`Passed`): testing the first `count` bidders comes to testing those from `i` on, since all before
-- passed. One that asks for a deposit fails the whole test (fail-first), any other moves `i` on (pass-first).
use Prim.Native.Nat.{◌≤◌}
use lib.ListN.{take}
use Rattle.market.proofs.Tests.{Passed}
use Rattle.call_funding.specs.Deposits.{no_deposit}
use Rattle.call_funding.proofs.deposits.none_asked.Given as goal

abbrev pub invariant-loop-i : goal.invariant-loop-i
invariant-loop-i l = (l.i ≤ l.count) × Passed no_deposit (take l.count l.bidders) l.i
