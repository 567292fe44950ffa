-- The invariant: the words are the old ones with the first `i` entries written over by their changed form. The entry at
-- `i` is still the old one, so changing it and putting it back writes one more (change-next).
use mathlib.Core.Path.{◌≡◌}
use mathlib.Core.List.{map}
use Rattle.register.specs.Words.{entries_of, entries_written}
use Rattle.register.specs.Entries.{issued_to}
use Rattle.register_entries.proofs.issue.Given as goal

abbrev pub invariant-loop-i : goal.invariant-loop-i
invariant-loop-i l = l.words ≡ entries_written l.initial.words (map (issued_to l.bidder) (entries_of l.initial.words l.i))
