-- The invariant (`FilledTo`): the first `i` numbers are those of the first `i` slots, and the others are 0. Each slot's
-- bidder is one of a book (`line-listed`), so the cast to 32 bits keeps its number.
use Rattle.market.specs.Limits.{bidder_limit}
use Rattle.sheet_form.specs.declared.rows.BidderLine.{BidderLine}
use Rattle.sheet_calls.proofs.SlotLaws.{FilledTo}
use Rattle.sheet_calls.proofs.numbers.Given as goal

abbrev pub invariant-loop-i : goal.invariant-loop-i
invariant-loop-i l = FilledTo (λ (x : BidderLine). x.bidder) l.lines bidder_limit 0 l.numbers l.i
