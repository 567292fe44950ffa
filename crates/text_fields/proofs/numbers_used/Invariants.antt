-- The invariant (`TakenTo`): the bytes of all numbers are `used` plus those of the `left` numbers still to read, or 0
-- if one of these is missing. Each turn reads one number (`taken-one`); a missing one makes the whole 0
-- (`taken-missing`).
use Rattle.text_fields.proofs.ReadLaws.{TakenTo}
use Rattle.text_fields.proofs.numbers_used.Given as goal

abbrev pub invariant-loop-left : goal.invariant-loop-left
invariant-loop-left l = TakenTo l.bytes l.at l.limit l.last l.count l.used l.left

abbrev pub decreases-loop-left : goal.decreases-loop-left
decreases-loop-left l = l.left
