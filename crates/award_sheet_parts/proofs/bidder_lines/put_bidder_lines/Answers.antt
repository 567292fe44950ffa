use borrow.Author.Tests.{ltb-true}
use Prim.Native.Nat.{◌+◌}
use lib.ListN.{get_or, drop}
use Rattle.market.specs.Limits.{bidder_limit}
use Rattle.market.proofs.Every.{every-within}
use Rattle.text_writing.proofs.PutLaws.{written-fits, written_on, written-done}
use Rattle.award_sheet_parts.specs.AwardSheet.{is_bidder, award_bidder_line, award_bidder_lines}
use Rattle.award_sheet_parts.proofs.BidderLaws.{bidders-next, bidders-none}
use Rattle.award_sheet_parts.proofs.bidder_lines.put_bidder_lines.Goals as goal

pub bidder-requires : goal.bidder-requires
bidder-requires c =
    let l = c.args.listed.now in
    let i = c.loop-number.number-index in
    ltb-true (get_or l i 0) bidder_limit (every-within is_bidder l i 0 c.loop-number-test.true c.requires.listed_value)

-- at a bidder whose row was read: the lines from it on are its own and those after it
pub put_bidder_line-end-requires : goal.put_bidder_line-end-requires
put_bidder_line-end-requires c =
    let b = c.args.book in
    let l = c.args.listed.now in
    let i = c.loop-number.number-index in
    written-fits c.loop-number.invariant (award_bidder_line (get_or l i 0) c.bidder.result) (award_bidder_lines b (drop (i + 1) l))
    (bidders-next b l i c.bidder.ensures c.loop-number-test.true)

pub loop-number-preserved : goal.loop-number-preserved
loop-number-preserved c =
    let b = c.args.book in
    let l = c.args.listed.now in
    let i = c.loop-number.number-index in
    written_on c.loop-number.invariant (award_bidder_line (get_or l i 0) c.bidder.result) (award_bidder_lines b (drop (i + 1) l))
    (bidders-next b l i c.bidder.ensures c.loop-number-test.true) c.put_bidder_line-end.ensures

pub returns : goal.returns
returns c =
    written-done c.loop-number.invariant (bidders-none c.args.book c.args.listed.now c.loop-number.number-index c.loop-number-test.false)
