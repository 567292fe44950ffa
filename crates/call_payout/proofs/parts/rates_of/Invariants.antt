-- The invariant: the first `i` places hold the rates of their paths and the rest are 0 (`filled`); each turn fills one
-- more (fill-next). A path's zone is within the limit, so the hour that it sees is sound, which rate_of requires
-- (hour-sound).
use mathlib.Core.Path.{◌≡◌}
use Prim.Native.Nat.{◌≤◌}
use Rattle.market.proofs.Filled.{filled}
use Rattle.market.specs.Books.{in_cents}
use Rattle.market.specs.Limits.{path_limit}
use Rattle.call_payout.specs.Payout.{rate_on}
use Rattle.call_payout.proofs.parts.rates_of.Given as goal

abbrev pub invariant-loop-i : goal.invariant-loop-i
invariant-loop-i l = (l.i ≤ l.count) × (in_cents l.rates ≡ filled (rate_on l.failed l.prices) l.paths path_limit 0 l.i)
