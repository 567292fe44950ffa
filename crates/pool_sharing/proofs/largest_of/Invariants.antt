-- The invariant: `best` is the place of the first largest of the first `i` remainders.
use Rattle.std.specs.List.{IsFirstMaxByKey}
use Rattle.pool_sharing.proofs.largest_of.Given as goal

abbrev pub invariant-loop-i : goal.invariant-loop-i
invariant-loop-i l = IsFirstMaxByKey (λ x. x) l.rems l.i l.best
