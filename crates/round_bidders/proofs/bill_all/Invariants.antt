-- The invariant: `next` has the first `i` bidders billed and the others as they were (`billed_to`); each turn bills one
-- more (`billed-next`), and the bounds hold for every bidder and every charge.
use mathlib.Core.Path.{◌≡◌}
use Prim.Native.Nat.{◌≤◌}
use Rattle.market.specs.Books.{in_cents}
use Rattle.market.specs.Limits.{bidder_limit}
use Rattle.round_bidders.specs.Bidders.{billed_to}
use Rattle.round_bidders.proofs.bill_all.Given as goal

abbrev pub invariant-loop-i : goal.invariant-loop-i
invariant-loop-i l = l.next ≡ billed_to l.fn.bidders (in_cents l.charges) l.i
