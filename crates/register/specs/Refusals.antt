-- The refusals that each call that is lent the register has before its own: rules 3.4, 13.1 and 13.2.
use Rattle.std.specs.Prelude.{◌≡◌, Bool, true, not, ◌&&◌, List, [], ◌∷◌, ℕ, ◌*◌, ◌≤◌, ltb, length}
use Rattle.market.specs.Answers.{Row, ◌gives◌}
use Rattle.market.specs.Books.{every}
use Rattle.market.specs.Limits.{entry_limit, entry_words, register_words}
use Rattle.market.specs.Sound.{sound_book}
use Rattle.market.specs.declared.answer.Refusal.{Refusal}
use Rattle.market.specs.declared.book.Book.{Book}
use Rattle.market.specs.declared.book.Entry.{Entry}
use Rattle.register.specs.Entries.{sound_entry}
use Rattle.register.specs.Words.{entries_of}

-- rule 4.8: each entry is sound for the book
abbrev pub sound_entries : Book → List Entry → Bool
sound_entries b es = every (sound_entry b.path_count) es

-- rule 3.2: the entries that a book counts
abbrev pub counted_entries : Book → List ℕ → List Entry
counted_entries b words = entries_of words b.entries

-- rule 13.1: a register with too few words
abbrev pub short_register : List ℕ → Row
short_register words = ltb (length words) register_words gives Refusal.ShortBuffer

-- rule 13.2: the book, or one of the counted entries, is not sound
abbrev pub unsound_register : Book → List Entry → Row
unsound_register b es = not (sound_book b && sound_entries b es) gives Refusal.Unsound

-- rule 3.4: a call that is lent the register tests its length, and then the book and every counted entry
abbrev pub register_refusals : Book → List ℕ → List Row
register_refusals b words = short_register words ∷ unsound_register b (counted_entries b words) ∷ []

-- what holds of a book and of the register lent with it where neither is refused
pub record LentRegister (b : Book) (words : List ℕ) : Type 0 where
  pub long : register_words ≤ length words
  pub sound : sound_book b ≡ true
  pub entries : sound_entries b (counted_entries b words) ≡ true
  pub count : b.entries ≤ entry_limit
  pub room : b.entries * entry_words ≤ length words
