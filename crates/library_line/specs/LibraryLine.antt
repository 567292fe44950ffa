-- `tra_line`: a line of a journal on the state that a program keeps in lent words, what is returned, and what is left in everything lent
-- (rules 16.1, 16.2, 16.4 and 16.5).
use Rattle.std.specs.Prelude.{◌≡◌, Bool, true, cond, not, ◌||◌, List, [], ◌∷◌, ℕ, ◌≤◌, eqb, ltb, ℤ, length, Ok, Err}
use Rattle.market.specs.Answers.{Row, ◌gives◌, first_of, Verdict, refusal_number}
use Rattle.market.specs.Limits.{register_words}
use Rattle.market.specs.declared.book.Book.{Book}
use Rattle.market.specs.declared.answer.Refusal.{Refusal}
use Rattle.text_numbers.specs.Put.{put_at}
use Rattle.library_book.specs.BookWords.{book_size, book_words, book_in, encodes_book, FitsBook}
use Rattle.journal_reply.specs.Replies.{reply_room}
use Rattle.journal_step.specs.LineStep.{line_bytes, Stepped, word_room, line_step, own_words}
use Rattle.journal_step.specs.declared.Journal.{Journal}

-- ---- A line of a journal

-- what a program keeps and lends for its lines: the book's words, the account, the register, room for a line's own words, a buffer for the reply,
-- and the count of the reply's bytes
pub record Memory : Type 0 where
  pub book : List ℕ
  pub account : ℤ
  pub register : List ℕ
  pub room : List ℕ
  pub out : List ℕ
  pub used : ℕ

-- the number that is returned, and the memory after it
pub record Returned : Type 0 where
  pub number : ℕ
  pub memory : Memory

abbrev pub in_memory : List ℕ → ℤ → List ℕ → List ℕ → List ℕ → ℕ → Memory
in_memory book account register room out used =
    record { book = book; account = account; register = register; room = room; out = out; used = used }

-- rule 16.2: one of the four buffers, for the book's words, the register, the words of the line or the reply, has fewer elements than it must have
abbrev pub short : List ℕ → List ℕ → List ℕ → List ℕ → Bool
short book register room out =
    ltb (length book) book_size
    || (ltb (length register) register_words || (ltb (length room) word_room || ltb (length out) reply_room))

-- rules 16.1 and 16.4: 1 for a short buffer, and 2 for words that are no book
abbrev pub line_refusals : Memory → List Row
line_refusals m =
    (short m.book m.register m.room m.out gives Refusal.ShortBuffer)
    ∷ (not (encodes_book m.book) gives Refusal.Unsound)
    ∷ []

-- rule 16.2: a line of more than 65,536 bytes is taken as an empty one, which is refused with 40
abbrev pub taken : List ℕ → List ℕ
taken line = cond (ltb line_bytes (length line)) [] line

-- rules 16.4 and 16.5: the journal's state besides the register; where the book has no path there is none, and only `fresh` can be answered
abbrev pub journal_of : Book → Journal
journal_of b = record { ready = not (eqb b.path_count 0); book = b }

-- rule 16.5: words hold a journal's state: they encode a book, and it is the state that they are read as
pub record HeldIn (book : List ℕ) (account : ℤ) (j : Journal) : Type 0 where
  pub stood : encodes_book book ≡ true
  pub read : journal_of (book_in book account) ≡ j

-- a line, by the journal's own rules, on the state in the memory
abbrev pub step_on : Memory → List ℕ → Stepped
step_on m line = line_step (journal_of (book_in m.book m.account)) m.register line

-- rule 16.2: after a line the words have the state after it, the room begins with its own words, and the reply is at the front of its buffer
abbrev pub memory_after : Memory → List ℕ → Stepped → Memory
memory_after m line step =
    record {
      book = put_at m.book 0 (book_words step.journal.book);
      account = step.journal.book.account.0;
      register = step.register;
      room = put_at m.room 0 (own_words line);
      out = put_at m.out 0 step.text;
      used = length step.text;
    }

abbrev pub line_run : Memory → List ℕ → Memory
line_run m line = memory_after m line (step_on m line)

-- rule 16.1: 0 where the work was done; with 1 or 2 nothing lent has changed
abbrev pub returned_by : Memory → Verdict → Memory → Returned
returned_by before (Ok done) after = record { number = 0; memory = after }
returned_by before (Err refusal) after = record { number = refusal_number refusal; memory = before }

-- rule 16.1: `tra_line`; what the rules refuse is work done
unfoldable pub line_on : Memory → List ℕ → Returned
line_on m line = returned_by m (first_of (line_refusals m)) (line_run m (taken line))

-- ---- Lines one after another

-- what a program keeps from line to line
pub record Kept : Type 0 where
  pub book : List ℕ
  pub account : ℤ
  pub register : List ℕ

-- a line, and what else is lent for it alone, whatever it holds
pub record Given : Type 0 where
  pub line : List ℕ
  pub room : List ℕ
  pub out : List ℕ
  pub used : ℕ

-- all that is lent for a line, and what is kept of it
abbrev pub memory_of : Kept → Given → Memory
memory_of k g = in_memory k.book k.account k.register g.room g.out g.used

abbrev pub kept_in : Memory → Kept
kept_in m = record { book = m.book; account = m.account; register = m.register }

-- rule 16.5: what is kept after lines, each given to the library
abbrev pub lines_on : Kept → List Given → Kept
lines_on k [] = k
lines_on k (g ∷ gs) = lines_on (kept_in (line_on (memory_of k g) g.line).memory) gs

-- the same lines by the journal's own rules: its state, and the register
pub record JournalState : Type 0 where
  pub journal : Journal
  pub register : List ℕ

abbrev pub state_after : Stepped → JournalState
state_after step = record { journal = step.journal; register = step.register }

-- rule 16.5: what the journal has after these lines
abbrev pub lines_by : JournalState → List Given → JournalState
lines_by s [] = s
lines_by s (g ∷ gs) = lines_by (state_after (line_step s.journal s.register (taken g.line))) gs

-- what is certain in a machine's memory at each of these lines: the buffers have the lengths of rule 16.2, and the book after the line fits its
-- fields
pub record Sized (s : JournalState) (g : Given) : Type 0 where
  pub register : register_words ≤ length s.register
  pub room : word_room ≤ length g.room
  pub out : reply_room ≤ length g.out
  pub book : FitsBook (line_step s.journal s.register (taken g.line)).journal.book

abbrev pub AllSized : JournalState → List Given → Type 0
AllSized s [] = Unit
AllSized s (g ∷ gs) = Sized s g × AllSized (state_after (line_step s.journal s.register (taken g.line))) gs
