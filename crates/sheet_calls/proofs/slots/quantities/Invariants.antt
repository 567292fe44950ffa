-- The invariant (`QuantitiesTo`): the first `i` groups of four words are the quantities of the first `i` slots, and the
-- rest are 0. The four stores of a turn fill one group more (`one-put`).
use Rattle.sheet_calls.proofs.QuantityLaws.{QuantitiesTo}
use Rattle.sheet_calls.proofs.slots.quantities.Given as goal

abbrev pub invariant-loop-i : goal.invariant-loop-i
invariant-loop-i l = QuantitiesTo l.lines l.words l.i
