-- The invariant: the sum of each path is what the first `i` entries count for on it. The next entry adds its part to
-- the sum of its own path and leaves the others (path-added, outstanding-more). A sum is at most the quantity limit for
-- each entry passed, so it fits a word (outstanding-within).
use mathlib.Core.Path.{◌≡◌}
use Prim.Native.Nat.{ℕ}
use lib.ListN.{length, get_or}
use Rattle.market.specs.Books.{in_megawatts}
use Rattle.market.specs.Limits.{path_limit}
use Rattle.register.specs.Entries.{outstanding}
use Rattle.register.specs.Words.{entries_of}
use Rattle.register_entries.proofs.outstanding.Given as goal

abbrev pub invariant-loop-i : goal.invariant-loop-i
invariant-loop-i l = record {
  long : length l.sums ≡ path_limit;
  sums : (path : ℕ) → get_or (in_megawatts l.sums) path 0 ≡ outstanding path l.period (entries_of l.words l.i);
}
