-- The invariant (`Handed`): handing out the cents still to be given, from here, makes what the rule makes of all of
-- them. Each turn takes one step of the rule (handed-next); the sums fit since shares and cents left stay within the
-- pool's limit.
use Prim.Native.Nat.{◌+◌, ◌-◌, ◌≤◌}
use mathlib.Core.Path.{◌≡◌}
use lib.ListN.{length}
use Rattle.market.specs.Books.{in_cents}
use Rattle.market.specs.Limits.{bidder_limit, pool_limit}
use Rattle.pool_sharing.proofs.Loops.{Handed}
use Rattle.pool_sharing.specs.Sharing.{total}
use Rattle.pool_sharing.proofs.hand_out.Given as goal

abbrev pub invariant-loop-given : goal.invariant-loop-given
invariant-loop-given l =
    (l.given ≤ l.given-end)
    × (length l.shares ≡ bidder_limit)
    × (total (in_cents l.shares) + (l.given-end - l.given) ≤ pool_limit)
    × Handed l.given-end l.initial.rems (in_cents l.initial.shares) l.given l.rems (in_cents l.shares)
