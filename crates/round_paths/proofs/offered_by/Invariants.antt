-- The invariant: `offered` has what the round offers of the first `i` paths, and 0 after them (`filled`); each turn
-- fills one more place (`fill-next`).
use mathlib.Core.Path.{◌≡◌}
use Prim.Native.Nat.{◌≤◌}
use Rattle.market.proofs.Filled.{filled}
use Rattle.market.specs.Books.{in_megawatts}
use Rattle.market.specs.Limits.{path_limit}
use Rattle.call_open_offers.specs.Offers.{round_offer}
use Rattle.round_paths.proofs.offered_by.Given as goal

abbrev pub invariant-loop-i : goal.invariant-loop-i
invariant-loop-i l = (l.i ≤ l.count) × (in_megawatts l.offered ≡ filled (round_offer l.kind l.round) l.fn.paths path_limit 0 l.i)
