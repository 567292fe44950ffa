-- The invariant (`FilledTo`): the first `i` routes are those of the first `i` slots, and the others are empty. Each
-- turn stores one route (`one-filled`), and when every slot is done the list is the map (`every-filled`).
use Rattle.market.specs.Limits.{path_limit}
use Rattle.market.specs.Books.{no_route}
use Rattle.sheet_calls.specs.Calls.{route_of}
use Rattle.sheet_calls.proofs.SlotLaws.{FilledTo}
use Rattle.sheet_calls.proofs.slots.routes.Given as goal

abbrev pub invariant-loop-i : goal.invariant-loop-i
invariant-loop-i l = FilledTo route_of l.lines path_limit no_route l.routes l.i
