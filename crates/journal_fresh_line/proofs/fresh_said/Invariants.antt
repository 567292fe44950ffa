-- The invariant (SlotsTo): `count` routes were read up to `place`, the slots hold the first of them, and the text from
-- `place` on has the others; `next` is the route at `place`. A turn stores the route where a slot is left (slots_set)
-- and otherwise only counts it (slots-past); where no route follows, what was read is all.
use mathlib.Core.Path.{◌≡◌}
use lib.ListN.{length, drop}
use Rattle.journal_fresh_line.specs.FreshLines.{route_at, route_field_used, route_value, no_slots}
use Prim.Native.Nat.{◌+◌, ◌-◌, ◌≤◌}
use Rattle.journal_fresh_line.proofs.SlotLaws.{SlotsTo}
use Rattle.journal_fresh_line.proofs.fresh_said.Given as goal

abbrev pub invariant-loop-next : goal.invariant-loop-next
invariant-loop-next l =
    SlotsTo route_field_used route_value l.text no_slots l.count l.place l.routes × (l.next ≡ route_at (drop l.place l.text)) × (l.place + l.next.used ≤ length l.text)

abbrev pub decreases-loop-next : goal.decreases-loop-next
decreases-loop-next l = length l.text - l.place
