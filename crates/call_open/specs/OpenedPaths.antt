-- The paths that open makes of its quantities: rules 6.2, 6.3 and 6.6.
use Rattle.std.specs.Prelude.{List, ℕ, zero, suc, ◌+◌, ◌*◌, get_or, set}
use Rattle.market.specs.Books.{megawatts, no_path}
use Rattle.market.specs.Limits.{quantity_words}
use Rattle.market.specs.declared.book.Book.{Book}
use Rattle.market.specs.declared.book.Entry.{Entry}
use Rattle.market.specs.declared.book.Kind.{Kind}
use Rattle.market.specs.declared.book.Path.{Path}
use Rattle.market.specs.declared.book.Period.{Period}
use Rattle.call_open_offers.specs.Offers.{auction_offer}
use Rattle.call_open_offers.specs.declared.Quantities.{Quantities}
use Rattle.register.specs.Entries.{outstanding}

-- rule 6.2: the four quantities of path `i`, which the list has in this order, path after path
abbrev pub quantities_at : List ℕ → ℕ → Quantities
quantities_at quantities i =
    record {
      base = megawatts (get_or quantities (i * quantity_words) 0);
      upper = megawatts (get_or quantities (i * quantity_words + 1) 0);
      first = megawatts (get_or quantities (i * quantity_words + 2) 0);
      second = megawatts (get_or quantities (i * quantity_words + 3) 0);
    }

-- rule 6.2: how many words the quantities of the book's paths take
abbrev pub words_needed : Book → ℕ
words_needed b = b.path_count * quantity_words

-- rule 6.6: a path with its offer, and nothing sold
abbrev pub offering : Path → ℕ → Path
offering p mw = record { direction = p.direction; zone = p.zone; offer = megawatts mw; sold = megawatts 0 }

-- rules 6.3 and 6.6: path `i` opened, where `es` are the entries of the register
abbrev pub opened_path : Kind → Period → List Entry → List ℕ → ℕ → Path → Path
opened_path kind period es quantities i p = offering p (auction_offer kind (quantities_at quantities i) (outstanding i period es))

-- rules 2.1 and 6.6: the slots with the first `n` paths opened, and the others as they were
abbrev pub opened_paths : Kind → Period → List Entry → List ℕ → List Path → ℕ → List Path
opened_paths kind period es quantities slots zero = slots
opened_paths kind period es quantities slots (suc n) =
    set (opened_paths kind period es quantities slots n) n
    (opened_path kind period es quantities n (get_or slots n no_path))
