-- The invariant (`LinesTo`): a walk over the words has passed `k` bids, whose awards are written, and those of the
-- others are still to come. A turn writes one bid's award, if any, and goes on to the bid's end, inside the list
-- (`bid-whole`).
use mathlib.Core.Path.{◌≡◌}
use Rattle.award_sheet_round.specs.RoundLines.{award_lines}
use Rattle.award_sheet_round.proofs.WalkLaws.{LinesTo}
use Rattle.award_sheet_round.proofs.award_lines.put_award_lines.Given as goal

abbrev pub invariant-loop-k : goal.invariant-loop-k
invariant-loop-k l =
    record {
      can : (goal.iterator-loop-k).can_next l.k-iterator;
      ends : (goal.iterator-loop-k).is_finite l.k-iterator;
      same : l.k-iterator.iter.words.now ≡ l.words;
      lines : LinesTo (award_lines l.answers) l.words l.initial.out l.at l.end l.out l.k-iterator.count l.k-iterator.iter.at;
    }
