-- The invariant (RunTo): `run.count` numbers were read up to `at + run.used` and are at the front of the list, and the line
-- from there on has the others. A turn adds one number (run_more); the loop stops where none follows (run_ends) or the
-- list is full (run-full).
use Prim.Native.Nat.{◌+◌, ◌-◌}
use lib.ListN.{length}
use Rattle.journal_number_lists.proofs.SeriesLaws.{RunTo}
use Rattle.journal_number_lists.proofs.numbers_at.Given as goal

abbrev pub invariant-loop-run : goal.invariant-loop-run
invariant-loop-run g l = RunTo g.N.Listed.used g.N.Listed.value l.line l.at l.initial.out l.run.count (l.at + l.run.used) l.out

abbrev pub decreases-loop-run : goal.decreases-loop-run
decreases-loop-run g l = length l.initial.out - l.run.count
