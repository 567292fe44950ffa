-- The invariant (DigitsTo): the digits before `i` say `value`, which is within the limit, and the digits from `i` on
-- continue it. A turn takes in one more digit (digits_more). Each return is one way to stop: the digits end
-- (ended-below, ended-above, ended-line), or the value is over the limit (too_large).
use Prim.Native.Nat.{◌-◌}
use lib.ListN.{length}
use Rattle.journal_fields.proofs.NumeralLaws.{DigitsTo}
use Rattle.journal_fields.proofs.digits_at.Given as goal

abbrev pub invariant-loop-i : goal.invariant-loop-i
invariant-loop-i l = DigitsTo l.line l.at l.limit l.i l.value

abbrev pub decreases-loop-i : goal.decreases-loop-i
decreases-loop-i l = length l.line - l.i
