-- What is left of the bytes gets shorter with each case.
use Rattle.std.proofs.Common.{length}
use Rattle.case_tools.proofs.cases.run_all.Given as goal

abbrev pub decreases-loop-case : goal.decreases-loop-case
decreases-loop-case g l = length l.rest
