-- The invariant (`Passed`): testing all counted entries comes to testing those from `i` on, since all before passed.
-- The entry read at `i` is the list's (entries_at): unsound it fails the whole test (fail), sound it moves `i` on
-- (pass), and after the last nothing is left (passed).
use Rattle.register.specs.Words.{entries_of}
use Prim.Native.Nat.{◌≤◌}
use Rattle.register.specs.Entries.{sound_entry}
use Rattle.market.proofs.Tests.{Passed}
use Rattle.register_sound.proofs.sound_entries.Given as goal

abbrev pub invariant-loop-i : goal.invariant-loop-i
invariant-loop-i l =
    (l.i ≤ l.count) × Passed (sound_entry l.paths) (entries_of l.words l.count) l.i
