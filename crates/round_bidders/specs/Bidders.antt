-- What a round leaves for bidders: rules 7.13 and 7.14.
use Rattle.std.specs.Prelude.{List, ℕ, zero, suc, ◌+◌, ◌-◌, ◌/◌, min, get_or, set}
use Rattle.market.specs.Books.{cents, no_bidder}
use Rattle.market.specs.Limits.{bidder_limit}
use Rattle.market.specs.declared.book.Bidder.{Bidder}

-- rule 7.13: what is due, and what is moved of it
abbrev pub owed_with : Bidder → ℕ → ℕ
owed_with x charges = x.owed.0 + charges

abbrev pub moved_of : Bidder → ℕ → ℕ
moved_of x charges = min x.cash.0 (owed_with x charges)

-- rules 7.13 and 7.14: a bidder after it is billed, with a hold by what it then owes
abbrev pub billed : Bidder → ℕ → Bidder
billed x charges =
    record {
      cash = cents (x.cash.0 - moved_of x charges);
      applied = cents (x.applied.0 + moved_of x charges);
      letter = x.letter;
      hold = cents (min x.letter.0 ((owed_with x charges - moved_of x charges) / 10));
      owed = cents (owed_with x charges - moved_of x charges);
      step = x.step;
    }

-- rule 7.13: the first `n` bidders billed, whether or not they bid, and then all 32
abbrev pub billed_to : List Bidder → List ℕ → ℕ → List Bidder
billed_to bidders charges zero = bidders
billed_to bidders charges (suc n) =
    set (billed_to bidders charges n) n (billed (get_or bidders n no_bidder) (get_or charges n 0))

abbrev pub billed_all : List Bidder → List ℕ → List Bidder
billed_all bidders charges = billed_to bidders charges bidder_limit
