-- The invariant: the lines of the bidders before this one are written, and those from it on are still to come. Each turn
-- splits off one line (`bidders-next`); each number listed is a bidder's (`every-within`), so the book has the bidder.
use lib.ListN.{drop}
use Rattle.text_writing.proofs.PutLaws.{WrittenTo}
use Rattle.award_sheet_parts.specs.AwardSheet.{award_bidder_lines}
use Rattle.award_sheet_parts.proofs.bidder_lines.put_bidder_lines.Given as goal

abbrev pub invariant-loop-number : goal.invariant-loop-number
invariant-loop-number l = WrittenTo l.initial.out l.at (award_bidder_lines l.book l.listed) (award_bidder_lines l.book (drop l.number-index l.listed)) l.end l.out
