-- Laws about a line on the memory that a program keeps.
use mathlib.Core.Path.{◌≡◌, sym, ◌∙◌, ap}
use mathlib.Core.Bool.{Bool, true, false, ◌||◌}
use mathlib.Core.List.{List, ◌++◌, append_assoc}
use Prim.Native.Nat.{ℕ, ◌≤◌}
use native.Mathlib.Nat.{zero-add}
use native.Mathlib.Omega.{arith}
use lib.Dec.{ltb}
use lib.ListN.{length, take, drop, length-append, length-drop, take-append-drop}
use lib.Seq.{drop-append-le, length-take-le}
use borrow.Author.Tests.{ltb-false}
use Rattle.market.proofs.Tests.{neither-true}
use Rattle.market.specs.Limits.{register_words}
use Rattle.text_numbers.specs.Put.{put_at}
use Rattle.library_book.specs.BookWords.{book_size, encodes_book}
use Rattle.journal_reply.specs.Replies.{reply_room}
use Rattle.market.specs.Books.{with_front}
use Rattle.journal_step.specs.LineStep.{word_room}
use Rattle.library_line.specs.LibraryLine.{Memory, Returned, short, taken, line_run, line_on}

-- ---- Room

-- words written to the first part of a list are written to the list
pub laid-part : (own list : List ℕ) (n : ℕ) → n ≤ length list → length (with_front own (take n list)) ≡ n → with_front own (take n list) ++ drop n list ≡ put_at list 0 own
laid-part own list n room long =
    let first = take n list in
    let few : length own ≤ length first =
    omega (arith, length-append own (drop (length own) first), length-drop (length own) first, length-take-le n list room)
    in
    append_assoc own (drop (length own) first) (drop n list)
    ∙ ap (own ++◌)
    (sym (drop-append-le (length own) first (drop n list) few)
    ∙ ap (drop (length own)) (take-append-drop n list)
    ∙ ap (λ (k : ℕ). drop k list) (sym (zero-add (length own))))

-- ---- Buffers

pub record Enough (book register room out : List ℕ) : Type 0 where
  pub words : book_size ≤ length book
  pub entries : register_words ≤ length register
  pub own : word_room ≤ length room
  pub text : reply_room ≤ length out

-- where none is short, each is as long as stated
pub enough : (book register room out : List ℕ) → short book register room out ≡ false → Enough book register room out
enough book register room out h =
    let one = neither-true (ltb (length book) book_size) (ltb (length register) register_words || (ltb (length room) word_room || ltb (length out) reply_room)) h in
    let two = neither-true (ltb (length register) register_words) (ltb (length room) word_room || ltb (length out) reply_room) one.1 in
    let three = neither-true (ltb (length room) word_room) (ltb (length out) reply_room) two.1 in
    record {
      words = ltb-false (length book) book_size one.0;
      entries = ltb-false (length register) register_words two.0;
      own = ltb-false (length room) word_room three.0;
      text = ltb-false (length out) reply_room three.1;
    }

-- ---- What is returned

module _ (m : Memory) (line : List ℕ) where
  abbrev is_short : Bool
  is_short = short m.book m.register m.room m.out

  -- a buffer is short
  pub line-short : is_short ≡ true → ◌≡◌ {A = Returned} (record { number = 1; memory = m }) (line_on m line)
  unfolding line_on
  line-short h = rw h

  -- the words encode no book
  pub line-unsound : is_short ≡ false → encodes_book m.book ≡ false → ◌≡◌ {A = Returned} (record { number = 2; memory = m }) (line_on m line)
  unfolding line_on
  line-unsound h s = rw (h, s)

  -- the line is run
  pub line-run : is_short ≡ false → encodes_book m.book ≡ true → ◌≡◌ {A = Returned} (record { number = 0; memory = line_run m (taken line) }) (line_on m line)
  unfolding line_on
  line-run h s = rw (h, s)
