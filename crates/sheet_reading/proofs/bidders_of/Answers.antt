-- The two fields of the result apart: the count is that of the section (`section-count`), and the slots hold all of its
-- lines (`section-slots`), since the caller has shown that they are at most as many as the slots.
use mathlib.Core.Path.{ap₂}
use mathlib.Core.List.{List}
use Prim.Native.Nat.{ℕ}
use Rattle.market.specs.Limits.{bidder_limit}
use Rattle.sheet_lines.specs.declared.part.Part.TheVariants.{Bidders}
use Rattle.sheet_form.specs.Reading.{bidder_line_at}
use Rattle.sheet_form.specs.Slots.{no_bidder_line}
use Rattle.sheet_form.specs.declared.rows.BidderLine.{BidderLine}
use Rattle.sheet_form.specs.declared.rows.BidderRows.{BidderRows}
use Rattle.sheet_reading.proofs.SlotLaws.{section-count, section-slots}
use Rattle.sheet_reading.proofs.bidders_of.Goals as goal

pub returns : goal.returns
returns c =
    let a = c.args in
    let said = c.count_line-said in
    let slots = c.bidder_slots in
    ap₂ (λ (n : ℕ) (xs : List BidderLine). let r : BidderRows = record { count = n; lines = xs } in r)
    (section-count Bidders bidder_line_at a.bytes.now a.at said.result.used said.result.value said.ensures.used said.ensures.value)
    (section-slots Bidders bidder_line_at a.bytes.now a.at said.result.used said.result.value said.ensures.used said.ensures.value bidder_limit no_bidder_line slots.result
    slots.ensures)
