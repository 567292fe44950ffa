-- The invariant (`AddedTo`): the register is the old one with the entries of the winners among the first `k` bids
-- written after the counted ones, and those of the bids left are still to come. `one-added` adds the bid at `at` if it
-- won; the room for all entries leaves room for this one (`room-here`).
use mathlib.Core.Path.{◌≡◌}
use lib.ListN.{length}
use Rattle.market.specs.Books.{in_megawatts}
use Rattle.round_entries.proofs.EntryLaws.{AddedTo}
use Rattle.round_entries.proofs.add_entries.Given as goal

abbrev pub invariant-loop-k : goal.invariant-loop-k
invariant-loop-k l =
    record {
      can : (goal.iterator-loop-k).can_next l.k-iterator;
      ends : (goal.iterator-loop-k).is_finite l.k-iterator;
      same : l.k-iterator.iter.words.now ≡ l.words;
      long : length l.register ≡ length l.initial.register;
      added : AddedTo l.words (in_megawatts l.won) l.period l.initial.register l.counted l.register l.count l.k-iterator.count l.k-iterator.iter.at;
    }
