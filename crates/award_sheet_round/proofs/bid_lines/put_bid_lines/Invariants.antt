-- The invariant (`LinesTo`): a walk over the words has passed `k` bids, whose lines are written, and the lines of the
-- others are still to come. Each turn writes one line and goes on to the bid's end, still inside the list
-- (`bid-whole`).
use mathlib.Core.Path.{◌≡◌}
use Rattle.award_sheet_round.specs.RoundLines.{award_bid_lines}
use Rattle.award_sheet_round.proofs.WalkLaws.{LinesTo}
use Rattle.award_sheet_round.proofs.bid_lines.put_bid_lines.Given as goal

abbrev pub invariant-loop-k : goal.invariant-loop-k
invariant-loop-k l =
    record {
      can : (goal.iterator-loop-k).can_next l.k-iterator;
      ends : (goal.iterator-loop-k).is_finite l.k-iterator;
      same : l.k-iterator.iter.words.now ≡ l.words;
      lines : LinesTo (award_bid_lines l.answers) l.words l.initial.out l.at l.end l.out l.k-iterator.count l.k-iterator.iter.at;
    }
