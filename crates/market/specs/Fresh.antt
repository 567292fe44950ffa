-- The fresh book, what comes back where it is refused, and the refusal: rules 2.7 and 13.25.
use Rattle.std.specs.Prelude.{Bool, not, List, [], ◌∷◌, ◌++◌, map, ℕ, ◌-◌, leb, pos, take, replicate}
use Rattle.market.specs.Answers.{Row, ◌gives◌, first_of, answered, decided}
use Rattle.market.specs.Books.{every, megawatts, balance, no_path, no_bidder}
use Rattle.market.specs.Limits.{path_limit, zone_limit, bidder_limit}
use Rattle.market.specs.Sound.{sound_path_count}
use Rattle.market.specs.declared.answer.Outcome.{Outcome}
use Rattle.market.specs.declared.answer.Refusal.{Refusal}
use Rattle.market.specs.declared.book.Book.{Book}
use Rattle.market.specs.declared.book.Path.{Path}
use Rattle.market.specs.declared.book.Route.{Route}
use Rattle.market.specs.declared.book.Stage.TheVariants.{Idle}

-- rule 13.25: the zone of a route is not above the highest
abbrev pub sound_route : Route → Bool
sound_route r = leb r.zone zone_limit

-- rule 13.25: there is no path, or more than 16, or a zone is above 15; routes past the counted ones are no part of the book
abbrev pub fresh_refusals : List Route → ℕ → List Row
fresh_refusals routes n =
    (not (sound_path_count n) gives Refusal.Quantity)
    ∷ (not (every sound_route (take n routes)) gives Refusal.Quantity)
    ∷ []

-- rule 2.7: a path of a fresh book has its direction and zone, and nothing offered or sold
abbrev pub fresh_path : Route → Path
fresh_path r = record { direction = r.direction; zone = r.zone; offer = megawatts 0; sold = megawatts 0 }

-- rules 2.1 and 2.7: the slots of the counted paths, and empty slots after them
abbrev pub fresh_paths : List Route → ℕ → List Path
fresh_paths routes n = map fresh_path (take n routes) ++ replicate (path_limit - n) no_path

-- rule 2.7: a book with these paths, in which every other number is 0 and no auction is open
abbrev pub book_of : List Path → ℕ → Book
book_of slots n =
    record {
      paths = slots;
      path_count = n;
      bidders = replicate bidder_limit no_bidder;
      account = balance (pos 0);
      entries = 0;
      stage = Idle;
    }

-- rule 2.7: the book that is made of a direction and a zone for each path
unfoldable pub fresh_book : List Route → ℕ → Book
fresh_book routes n = book_of (fresh_paths routes n) n

-- rule 2.7: what comes back in place of a book: it has no path, so it is not sound and no call on it is answered
unfoldable pub no_book : Book
no_book = book_of (replicate path_limit no_path) 0

-- rules 2.7 and 13.25: a fresh book, or its refusal
unfoldable pub fresh : List Route → ℕ → Outcome
fresh routes n = decided no_book (first_of (fresh_refusals routes n)) (answered (fresh_book routes n))
