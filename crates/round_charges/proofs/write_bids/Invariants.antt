-- The invariant (`LaidTo`): the list begins with the rows of the first `k` bids and is unchanged past them, and these
-- rows followed by those of the bids left are the rule's rows. `put_row` writes the row of the bid at `at`
-- (`one-laid`), which is whole and sound (`bid-right`).
use mathlib.Core.Path.{◌≡◌}
use lib.ListN.{length}
use Rattle.market.specs.Books.{in_cents, in_megawatts}
use Rattle.round_charges.proofs.RowLaws.{LaidTo}
use Rattle.round_charges.proofs.write_bids.Given as goal

abbrev pub invariant-loop-k : goal.invariant-loop-k
invariant-loop-k l =
    record {
      can : (goal.iterator-loop-k).can_next l.k-iterator;
      ends : (goal.iterator-loop-k).is_finite l.k-iterator;
      same : l.k-iterator.iter.words.now ≡ l.words;
      long : length l.answers ≡ length l.initial.answers;
      laid : LaidTo l.words l.marks (in_megawatts l.won) (in_cents l.prices) l.initial.answers l.answers l.k-iterator.count l.k-iterator.iter.at;
    }
