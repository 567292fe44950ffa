-- The invariant (`WordsTo`): the first `n` words of the section are stored, and the others are the numbers of the text
-- from `at` on. Each turn stores one number (`one-put`); a number takes at least one byte, so `n` never passes `at`.
use Prim.Native.Nat.{◌+◌, ◌-◌}
use lib.ListN.{length}
use Rattle.sheet_bids.proofs.WordsPut.{WordsTo}
use Rattle.sheet_bids.proofs.words_of.Given as goal

abbrev pub invariant-loop-at : goal.invariant-loop-at
invariant-loop-at l = WordsTo l.section l.initial.out l.out l.n l.at

abbrev pub decreases-loop-at : goal.decreases-loop-at
decreases-loop-at l = length l.section + 1 - l.at
