-- The invariant (`ValueTo`): the value so far, continued with the digits that are left, is the value of all digits, and it
-- is below 10 to the power of those read. With at most 13 digits that bound keeps every sum within 64 bits
-- (`value-small`).
use Rattle.text_numbers.proofs.ReadLaws.{ValueTo}
use Rattle.text_numbers.proofs.value_of.Given as goal

abbrev pub invariant-loop-c : goal.invariant-loop-c
invariant-loop-c l = ValueTo l.digits l.c-index l.value
