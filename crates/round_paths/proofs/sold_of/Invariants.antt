-- The invariant: `next` has the first `i` paths with what the round sold added, and the others as they were
-- (`sold_to`); each turn replaces one path (`sold-next`). Both quantities added are within the limit, which `every`
-- says of each place.
use mathlib.Core.Path.{◌≡◌}
use Prim.Native.Nat.{◌≤◌}
use Rattle.market.specs.Books.{in_megawatts}
use Rattle.round_paths.specs.PathSales.{sold_to}
use Rattle.round_paths.proofs.sold_of.Given as goal

abbrev pub invariant-loop-i : goal.invariant-loop-i
invariant-loop-i l = (l.i ≤ l.count) × (l.next ≡ sold_to l.fn.paths (in_megawatts l.sold) l.i)
