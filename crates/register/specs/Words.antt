-- How the words of the register hold its entries, and which words are written: rules 3.1 to 3.3.
use Rattle.std.specs.Prelude.{List, [], ◌∷◌, ◌++◌, ℕ, zero, suc, ◌+◌, ◌*◌, length, get_or, take, drop}
use Rattle.market.specs.Books.{megawatts, day_number}
use Rattle.market.specs.Limits.{entry_words}
use Rattle.market.specs.declared.book.Entry.{Entry}

-- rule 3.1: the entry with number `i`, in six words from place 6 × i on
abbrev pub entry_at : List ℕ → ℕ → Entry
entry_at words i =
    record {
      bidder = get_or words (i * entry_words) 0;
      path = get_or words (i * entry_words + 1) 0;
      quantity = megawatts (get_or words (i * entry_words + 2) 0);
      period =
          record {
            first = day_number (get_or words (i * entry_words + 3) 0);
            last = day_number (get_or words (i * entry_words + 4) 0);
          };
      state = get_or words (i * entry_words + 5) 0;
    }

-- rule 3.2: the first `n` entries, where `n` is the number that the book has
abbrev pub entries_of : List ℕ → ℕ → List Entry
entries_of words zero = []
entries_of words (suc n) = entries_of words n ++ (entry_at words n ∷ [])

-- rule 3.1: the six words of an entry in their order, and the words of a list of entries
abbrev pub encoded_entry : Entry → List ℕ
encoded_entry e =
    e.bidder ∷ e.path ∷ e.quantity.0 ∷ e.period.first.0 ∷ e.period.last.0 ∷ e.state ∷ []

abbrev pub all_words : List Entry → List ℕ
all_words [] = []
all_words (e ∷ es) = encoded_entry e ++ all_words es

-- the words after an entry is put at a place
abbrev pub entry_put : List ℕ → ℕ → Entry → List ℕ
entry_put words i e = take (i * entry_words) words ++ encoded_entry e ++ drop (i * entry_words + entry_words) words

-- rule 3.3: the words after entries are written from the front: all words past the entries keep what they held
abbrev pub entries_written : List ℕ → List Entry → List ℕ
entries_written words es = all_words es ++ drop (length es * entry_words) words
