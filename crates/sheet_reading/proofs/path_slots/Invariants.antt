-- The invariant (`SlotsTo`): the first `i` slots hold the section's first `i` lines, the others are empty, and the
-- lines still to come are those at `place`. Each turn reads one line (`one-slotted`).
use Rattle.sheet_reading.proofs.SlotLaws.{SlotsTo}
use Rattle.market.specs.Limits.{path_limit}
use Rattle.sheet_lines.specs.declared.part.Part.TheVariants.{Paths}
use Rattle.sheet_form.specs.Reading.{path_line_at}
use Rattle.sheet_form.specs.Slots.{no_path_line}
use Rattle.sheet_reading.proofs.path_slots.Given as goal

abbrev pub invariant-loop-i : goal.invariant-loop-i
invariant-loop-i l =
    SlotsTo Paths path_line_at path_limit no_path_line l.bytes l.at l.count l.slots l.place l.state l.i
