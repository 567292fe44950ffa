-- The parts of a book, and a book with one of them replaced: rule 1.1 and rules 2.1 to 2.5. The types are those that `src/` declares.
use Rattle.std.specs.Prelude.{Bool, not, ◌||◌, List, ◌++◌, map, ℕ, ◌+◌, eqb, ℤ, length, take, drop, get_or, set}
use Rattle.std.specs.List.{list_all}
use Rattle.market.specs.declared.book.Bidder.{Bidder}
use Rattle.market.specs.declared.book.Book.{Book}
use Rattle.market.specs.declared.book.Direction.TheVariants.{Export}
use Rattle.market.specs.declared.book.Path.{Path}
use Rattle.market.specs.declared.book.Route.{Route}
use Rattle.market.specs.declared.book.Stage.{Stage}
use Rattle.market.specs.declared.units.Balance.{Balance}
use Rattle.market.specs.declared.units.Cents.{Cents}
use Rattle.market.specs.declared.units.Day.{Day}
use Rattle.market.specs.declared.units.Megawatts.{Megawatts}
use Rattle.market.specs.declared.units.ZonePrice.{ZonePrice}

-- a test holds of every element of a list
abbrev pub every : {A : Type 0} → (A → Bool) → List A → Bool
every test xs = list_all test xs

-- other elements at the front of a list; those after them stay
abbrev pub with_front : {X : Type 0} → List X → List X → List X
with_front front list = front ++ drop (length front) list

-- one test holds wherever another does
infix 25 ◌implies◌
abbrev pub ◌implies◌ : Bool → Bool → Bool
a implies b = not a || b

-- rule 1.1: a number as one of the five kinds
abbrev pub cents : ℕ → Cents
cents n = record { 0 = n }

abbrev pub megawatts : ℕ → Megawatts
megawatts n = record { 0 = n }

abbrev pub day_number : ℕ → Day
day_number n = record { 0 = n }

abbrev pub balance : ℤ → Balance
balance z = record { 0 = z }

abbrev pub zone_price : ℤ → ZonePrice
zone_price z = record { 0 = z }

-- the numbers of a list of amounts, and of a list of quantities
abbrev pub in_cents : List Cents → List ℕ
in_cents amounts = map (λ x. x.0) amounts

abbrev pub in_megawatts : List Megawatts → List ℕ
in_megawatts quantities = map (λ x. x.0) quantities

-- rule 2.1: the paths of a book; slots past their number are no part of it
abbrev pub paths_of : Book → List Path
paths_of b = take b.path_count b.paths

-- rule 2.2: the MW that the auction offers of a path
abbrev pub offer_of : Path → ℕ
offer_of p = p.offer.0

-- rules 2.1 and 2.2: a path has four numbers; this one is empty and fills the slots past the book's paths
abbrev pub no_path : Path
no_path = record { direction = Export; zone = 0; offer = megawatts 0; sold = megawatts 0 }

-- an empty route, which is read past the end of a list of routes
abbrev pub no_route : Route
no_route = record { direction = Export; zone = 0 }

-- rules 2.3 and 2.7: a bidder has six numbers, and all are 0 in a fresh book
abbrev pub no_bidder : Bidder
no_bidder = record { cash = cents 0; applied = cents 0; letter = cents 0; hold = cents 0; owed = cents 0; step = 0 }

-- rule 2.3: the bidder with a given number
abbrev pub bidder_of : Book → ℕ → Bidder
bidder_of b i = get_or b.bidders i no_bidder

-- rule 2.4: a bidder's value
abbrev pub value_of : Bidder → ℕ
value_of x = x.applied.0 + x.owed.0

-- rules 4.6 and 6.1: a bidder has no value above 0
abbrev pub no_value : Bidder → Bool
no_value x = eqb (value_of x) 0

-- rules 4.5 and 12.9: a bidder's cash and applied cash together
abbrev pub held_of : Bidder → ℕ
held_of x = x.cash.0 + x.applied.0

-- amounts by bidder, with `cents` more for one of them
abbrev pub credit : List ℕ → ℕ → ℕ → List ℕ
credit amounts bidder cents = set amounts bidder (get_or amounts bidder 0 + cents)

-- a bidder with its cash, or its letter, replaced
abbrev pub with_cash : Bidder → ℕ → Bidder
with_cash x n =
    record { cash = cents n; applied = x.applied; letter = x.letter; hold = x.hold; owed = x.owed; step = x.step }

abbrev pub with_letter : Bidder → ℕ → Bidder
with_letter x n =
    record { cash = x.cash; applied = x.applied; letter = cents n; hold = x.hold; owed = x.owed; step = x.step }

-- a book with one bidder replaced
abbrev pub with_bidder : Book → ℕ → Bidder → Book
with_bidder b i x =
    record {
      paths = b.paths;
      path_count = b.path_count;
      bidders = set b.bidders i x;
      account = b.account;
      entries = b.entries;
      stage = b.stage;
    }

-- rule 3.2: a book with its number of entries replaced
abbrev pub with_entries : Book → ℕ → Book
with_entries b n =
    record {
      paths = b.paths;
      path_count = b.path_count;
      bidders = b.bidders;
      account = b.account;
      entries = n;
      stage = b.stage;
    }

-- rule 2.5: a book with its account replaced, which is one amount with a sign
abbrev pub with_account : Book → ℤ → Book
with_account b z =
    record {
      paths = b.paths;
      path_count = b.path_count;
      bidders = b.bidders;
      account = balance z;
      entries = b.entries;
      stage = b.stage;
    }

-- a book with the auction's part replaced: its paths and its stage
abbrev pub with_auction : Book → List Path → Stage → Book
with_auction b slots stage =
    record {
      paths = slots;
      path_count = b.path_count;
      bidders = b.bidders;
      account = b.account;
      entries = b.entries;
      stage = stage;
    }
