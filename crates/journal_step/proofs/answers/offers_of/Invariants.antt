-- The invariant: the first `i` slots hold the offers of the first `i` paths and the others hold 0; each turn fills one
-- slot (fill-next). At the end the filled slots are the offers of the first `number` paths (offers-filled).
use mathlib.Core.Path.{◌≡◌}
use Prim.Native.Nat.{◌≤◌}
use Rattle.market.proofs.Filled.{filled}
use Rattle.market.specs.Books.{offer_of}
use Rattle.market.specs.Limits.{path_limit}
use Rattle.journal_step.proofs.answers.offers_of.Given as goal

abbrev pub invariant-loop-i : goal.invariant-loop-i
invariant-loop-i l = (l.i ≤ l.count) × (l.slots ≡ filled offer_of l.paths path_limit 0 l.i)
