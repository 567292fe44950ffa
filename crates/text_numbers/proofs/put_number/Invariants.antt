-- The invariant (`PutTo`): the digits already written, from the back, are what `decimal n` has after `decimal left`,
-- and `i` is where the last digit of `left` goes. Each turn moves that digit over (`put_one`); the digit of a `left`
-- below 10 ends it (`put_all`).
use Rattle.text_numbers.proofs.PutLaws.{PutTo}
use Rattle.text_numbers.proofs.put_number.Given as goal

abbrev pub invariant-loop-left : goal.invariant-loop-left
invariant-loop-left l = PutTo l.initial.out l.at l.n l.left l.i l.out

abbrev pub decreases-loop-left : goal.decreases-loop-left
decreases-loop-left l = l.left
