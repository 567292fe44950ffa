-- The calls of a sheet before its first round (rules 14.6 and 14.7).
use Rattle.std.specs.Prelude.{List, [], ◌∷◌, map, ℕ, length, replicate}
use Rattle.market.specs.Books.{cents, no_route}
use Rattle.market.specs.Fresh.{fresh}
use Rattle.market.specs.Limits.{path_limit, register_words}
use Rattle.market.specs.declared.answer.Outcome.{Outcome}
use Rattle.market.specs.declared.book.Book.{Book}
use Rattle.market.specs.declared.book.Kind.{Kind}
use Rattle.market.specs.declared.book.Period.{Period}
use Rattle.market.specs.declared.book.Route.{Route}
use Rattle.call_rules.specs.Steps.{outcome_of}
use Rattle.call_funding.specs.Deposits.{and_then, list_deposits}
use Rattle.call_funding.specs.declared.BidderDeposits.{BidderDeposits}
use Rattle.call_open.specs.Open.{«open»}
use Rattle.sheet_form.specs.Slots.{filled}
use Rattle.sheet_form.specs.declared.rows.BidderLine.{BidderLine}
use Rattle.sheet_form.specs.declared.rows.PathLine.{PathLine}

-- rule 14.6: a line asks for a deposit of its cash and one of its letter; an amount of 0 asks for none
abbrev pub deposits_of : BidderLine → BidderDeposits
deposits_of x = record { bidder = x.bidder; cash = cents x.cash; letter = cents x.letter }

abbrev pub deposits : Book → List BidderLine → Outcome
deposits b xs = list_deposits b (map deposits_of xs)

-- rule 14.5: any number of paths is handed on; the routes are those of the first 16, and after the last path empty ones, which are no part of a book
abbrev pub route_of : PathLine → Route
route_of p = record { direction = p.direction; zone = p.zone }

abbrev pub routes_of : List PathLine → List Route
routes_of ps = filled path_limit no_route (map route_of ps)

-- base, FUL, A and B of each path, as rule 6.2 wants them
abbrev pub quantities_of : List PathLine → List ℕ
quantities_of [] = []
quantities_of (p ∷ ps) = p.base ∷ p.upper ∷ p.first ∷ p.second ∷ quantities_of ps

-- rule 14.6: the register before the first round has no entries
abbrev pub empty_register : List ℕ
empty_register = replicate register_words 0

-- rules 14.6 and 14.7: a fresh book, the deposits, and open; the first of them that is refused is the last
unfoldable pub opened : Kind → Period → List BidderLine → List PathLine → Outcome
opened kind period bidders paths =
    and_then (fresh (routes_of paths) (length paths))
    (λ b. and_then (deposits b bidders) (λ after. outcome_of («open» kind period (quantities_of paths)) after empty_register))
