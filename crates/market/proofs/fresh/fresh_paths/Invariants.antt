-- The invariant: the first `i` slots hold the fresh paths of their routes and the rest are empty (`filled`). Each turn
-- stores one path more (fill-next); at `i = count` this is the rule's list of slots by definition.
use mathlib.Core.Path.{◌≡◌}
use Prim.Native.Nat.{◌≤◌}
use Rattle.market.proofs.Filled.{filled}
use Rattle.market.specs.Fresh.{fresh_path}
use Rattle.market.specs.Books.{no_path}
use Rattle.market.specs.Limits.{path_limit}
use Rattle.market.proofs.fresh.fresh_paths.Given as goal

abbrev pub invariant-loop-i : goal.invariant-loop-i
invariant-loop-i l = (l.i ≤ l.count) × (l.paths ≡ filled fresh_path l.routes path_limit no_path l.i)
