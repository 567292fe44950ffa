use native.Mathlib.Omega.{arith}
use Rattle.sheet_reading.proofs.SlotLaws.{none-slotted, all-slotted, one-slotted}
use Rattle.market.specs.Limits.{bidder_limit}
use Rattle.sheet_lines.specs.declared.part.Part.TheVariants.{Bidders}
use Rattle.sheet_form.specs.Reading.{bidder_line_at}
use Rattle.sheet_form.specs.Slots.{no_bidder_line}
use Rattle.sheet_reading.proofs.bidder_slots.Goals as goal

pub loop-i-init : goal.loop-i-init
loop-i-init c =
    let a = c.args in
    let blank = c.no_bidder_line-slots in
    none-slotted Bidders bidder_line_at bidder_limit no_bidder_line a.bytes.now a.at a.count blank.result blank.ensures c.requires.at_in_bounds

pub line_at-step-requires : goal.line_at-step-requires
line_at-step-requires c =
    let inv = c.loop-i.invariant in
    record {
      state_bound = omega (arith, inv.bound, inv.within, c.requires.count_le_bidder_limit);
      at_in_bounds = inv.fits;
    }

pub loop-i-preserved : goal.loop-i-preserved
loop-i-preserved c =
    let start = c in
    let a = start.args in
    let to = c.loop-i in
    let line = c.bidder_at-line in
    let step = c.line_at-step in
    one-slotted Bidders bidder_line_at bidder_limit no_bidder_line a.bytes.now a.at a.count to.slots to.place to.state to.i to.invariant c.loop-i-test.true
    line.result line.ensures step.result step.ensures.line (omega (arith, c.loop-i-test.true, start.requires.count_le_bidder_limit)) step.ensures.fits

pub returns : goal.returns
returns c =
    let a = c.args in
    let to = c.loop-i in
    all-slotted Bidders bidder_line_at bidder_limit no_bidder_line a.bytes.now a.at a.count to.slots to.place to.state to.i to.invariant c.requires.count_le_bidder_limit
    c.loop-i-test.false
