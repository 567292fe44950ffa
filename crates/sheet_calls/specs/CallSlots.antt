-- The calls of a sheet up to open (rule 14.6), with the sheet's lines in slots.
use Rattle.std.specs.Prelude.{Bool, List, map, ℕ, ◌*◌, ltb, take}
use Rattle.market.specs.Fresh.{fresh}
use Rattle.market.specs.Limits.{bidder_limit, quantity_words}
use Rattle.market.specs.declared.answer.Outcome.{Outcome}
use Rattle.market.specs.declared.book.Book.{Book}
use Rattle.market.specs.declared.book.Kind.{Kind}
use Rattle.market.specs.declared.book.Period.{Period}
use Rattle.call_rules.specs.Steps.{outcome_of}
use Rattle.call_funding.specs.Deposits.{and_then}
use Rattle.call_open.specs.Open.{«open»}
use Rattle.sheet_form.specs.declared.rows.BidderLine.{BidderLine}
use Rattle.sheet_form.specs.declared.rows.PathLine.{PathLine}
use Rattle.sheet_form.specs.declared.rows.PathRows.{PathRows}
use Rattle.sheet_calls.specs.Calls.{deposits, route_of, quantities_of, empty_register}

-- whether the line is that of a bidder that a book has
abbrev pub is_listed : BidderLine → Bool
is_listed x = ltb x.bidder bidder_limit

-- the quantities of the first `count` slots
abbrev pub quantities_in : ℕ → List PathLine → List ℕ
quantities_in count slots = take (count * quantity_words) (quantities_of slots)

-- open with an empty register and the quantities of as many paths as are counted
abbrev pub open_with : Book → Kind → Period → PathRows → Outcome
open_with b kind period paths = outcome_of («open» kind period (quantities_in paths.count paths.lines)) b empty_register

-- rules 14.6 and 14.7: the calls up to open; the first that is refused is the last
unfoldable pub opened_slots : Kind → Period → List BidderLine → PathRows → Outcome
opened_slots kind period bidders paths =
    and_then (fresh (map route_of paths.lines) paths.count)
    (λ b. and_then (deposits b bidders) (λ after. open_with after kind period paths))
