-- The invariant (`SlotsTo`): the first `i` slots hold the section's first `i` lines, the others are empty, and the
-- lines still to come are those at `place`. Each turn reads one line (`one-slotted`).
use Rattle.sheet_reading.proofs.SlotLaws.{SlotsTo}
use Rattle.market.specs.Limits.{bidder_limit}
use Rattle.sheet_lines.specs.declared.part.Part.TheVariants.{Bidders}
use Rattle.sheet_form.specs.Reading.{bidder_line_at}
use Rattle.sheet_form.specs.Slots.{no_bidder_line}
use Rattle.sheet_reading.proofs.bidder_slots.Given as goal

abbrev pub invariant-loop-i : goal.invariant-loop-i
invariant-loop-i l =
    SlotsTo Bidders bidder_line_at bidder_limit no_bidder_line l.bytes l.at l.count l.slots l.place l.state l.i
