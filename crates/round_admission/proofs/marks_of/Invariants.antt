-- The invariant (`MarkedTo`): the first `k` bids have their marks, `used` has the values admitted of them and stays
-- within the top limit, and the marks still to come are the rule's for the bids left. `one-marked` takes the bid at
-- `at` over; that it is whole and sound (`bid-right`) bounds every read and sum.
use mathlib.Core.Path.{◌≡◌}
use Rattle.market.specs.Books.{in_cents}
use Rattle.round_admission.proofs.MarkLaws.{MarkedTo}
use Rattle.round_admission.proofs.marks_of.Given as goal

abbrev pub invariant-loop-k : goal.invariant-loop-k
invariant-loop-k l =
    record {
      can : (goal.iterator-loop-k).can_next l.k-iterator;
      ends : (goal.iterator-loop-k).is_finite l.k-iterator;
      same : l.k-iterator.iter.words.now ≡ l.words;
      marked : MarkedTo l.words (in_cents l.limits) l.marks (in_cents l.used) l.k-iterator.count l.k-iterator.iter.at;
    }
