-- The invariant (`ChargedTo`): `charges` has the charges of the first `k` bids by bidder, each amount at most `k` top
-- charges, and adding the bids left gives the rule's charges. `one-charged` adds the bid at `at`, which is whole and
-- sound (`bid-right`), so that its path and bidder are inside the tables.
use mathlib.Core.Path.{◌≡◌}
use Rattle.market.specs.Books.{in_cents, in_megawatts}
use Rattle.round_charges.proofs.ChargeLaws.{ChargedTo}
use Rattle.round_charges.proofs.charges_of.Given as goal

abbrev pub invariant-loop-k : goal.invariant-loop-k
invariant-loop-k l =
    record {
      can : (goal.iterator-loop-k).can_next l.k-iterator;
      ends : (goal.iterator-loop-k).is_finite l.k-iterator;
      same : l.k-iterator.iter.words.now ≡ l.words;
      charged : ChargedTo l.words (in_megawatts l.won) (in_cents l.prices) (in_cents l.charges) l.k-iterator.count l.k-iterator.iter.at;
    }
