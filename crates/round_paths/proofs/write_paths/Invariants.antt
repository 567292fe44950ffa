-- The invariant: the list begins with the rows of the first `i` paths and is unchanged past them; each turn writes
-- one row more (`row_next`).
use mathlib.Core.Path.{◌≡◌}
use Prim.Native.Nat.{◌≤◌}
use lib.ListN.{length}
use Rattle.market.specs.Books.{in_cents, in_megawatts, with_front}
use Rattle.round_paths.specs.PathRows.{path_rows}
use Rattle.round_paths.proofs.write_paths.Given as goal

abbrev pub invariant-loop-i : goal.invariant-loop-i
invariant-loop-i l =
    (l.i ≤ l.count) × ((length l.answers ≡ length l.initial.answers) × (l.answers ≡ with_front (path_rows (in_megawatts l.offered) (in_megawatts l.sold) (in_cents l.prices) l.i) l.initial.answers))
