-- A sound state, which each call of a list finds and leaves: rule 12.3. It is what calls test of a book and its entries, that there are as many
-- entries as the book counts, and the 32 bidders that the book's type has.
use Rattle.std.specs.Prelude.{◌≡◌, true, List, ℕ, ◌≤◌, length}
use Rattle.market.specs.Limits.{bidder_limit, register_words}
use Rattle.market.specs.Sound.{sound_book}
use Rattle.market.specs.declared.book.Book.{Book}
use Rattle.market.specs.declared.book.Entry.{Entry}
use Rattle.register.specs.Refusals.{sound_entries, counted_entries}

-- rules 4.1 to 4.8: the book and its entries are sound
pub record SoundState (b : Book) (es : List Entry) : Type 0 where
  pub sound : sound_book b ≡ true
  pub entries : sound_entries b es ≡ true
  pub counted : length es ≡ b.entries
  pub bidders : length b.bidders ≡ bidder_limit

-- the same in the engine's memory, where the entries are those that the book counts in the words of the register
pub record SoundMemory (b : Book) (words : List ℕ) : Type 0 where
  pub long : register_words ≤ length words
  pub state : SoundState b (counted_entries b words)
