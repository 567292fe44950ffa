-- What a round offers of each path, rule 6.7, and what the paths have sold after it, rule 7.15.
use Rattle.std.specs.Prelude.{Bool, List, ◌++◌, map, ℕ, zero, suc, ◌+◌, ◌-◌, get_or, set, replicate}
use Rattle.market.specs.Books.{megawatts, paths_of, no_path}
use Rattle.market.specs.Limits.{path_limit}
use Rattle.market.specs.Sound.{sound_quantity}
use Rattle.market.specs.declared.book.Book.{Book}
use Rattle.market.specs.declared.book.Kind.{Kind}
use Rattle.market.specs.declared.book.Path.{Path}
use Rattle.call_open_offers.specs.Offers.{round_offer}

-- rule 6.7: what a round offers of each path, and nothing past the book's paths
abbrev pub offered_by : Kind → ℕ → Book → List ℕ
offered_by kind round b =
    map (round_offer kind round) (paths_of b) ++ replicate (path_limit - b.path_count) 0

-- rule 7.15: a path that has sold more of its offer
abbrev pub with_sold : Path → ℕ → Path
with_sold p more =
    record { direction = p.direction; zone = p.zone; offer = p.offer; sold = megawatts (p.sold.0 + more) }

-- in a sound book no path has sold more than 9,999 MW, the limit of a quantity
abbrev pub sold_within : Path → Bool
sold_within p = sound_quantity p.sold.0

-- rules 2.1 and 7.15: the slots with what the round sold added to the first `n` paths, and the others as they were
abbrev pub sold_to : List Path → List ℕ → ℕ → List Path
sold_to slots sold zero = slots
sold_to slots sold (suc n) = set (sold_to slots sold n) n (with_sold (get_or slots n no_path) (get_or sold n 0))
