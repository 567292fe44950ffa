-- The invariant: of the first `i` entries those that stay are written at the front, and `kept` is their number. So the
-- entry at `i` is still the old one, and one turn of `keep` keeps the invariant (kept-count, kept-words).
use mathlib.Core.Path.{◌≡◌}
use lib.ListN.{length}
use Rattle.register.specs.Words.{entries_of, entries_written}
use Rattle.register.specs.Entries.{without}
use Rattle.register_entries.proofs.remove.Given as goal

abbrev pub invariant-loop-i : goal.invariant-loop-i
invariant-loop-i l = record {
  kept : l.kept ≡ length (without l.what (entries_of l.initial.words l.i));
  words : l.words ≡ entries_written l.initial.words (without l.what (entries_of l.initial.words l.i));
}
