-- The invariant (`LinesTo`): the lines that the rule reads are the `n` lines read so far and then what it reads of those
-- that are left, from here on. A line takes at least one byte, so `n` and `state` stay small and no sum wraps.
use Prim.Native.Nat.{◌-◌}
use Rattle.sheet_form.proofs.FormLaws.{LinesTo}
use Rattle.sheet_form.proofs.form.lines_from.Given as goal

abbrev pub invariant-loop-n : goal.invariant-loop-n
invariant-loop-n l = LinesTo l.part l.bytes l.at l.count l.n l.used l.state (l.count - l.n)
