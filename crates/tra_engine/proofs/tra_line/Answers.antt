-- Three ways out, in the order of the refusals: a buffer is short (line-short), the words encode no book
-- (line-unsound), the line is run (line-run). Where no buffer is short, `enough` gives what the callees require. That
-- the words then hold the journal's state is line-held, from the fit that run ensures.
use native.Mathlib.Omega.{arith}
use mir.Facts.{to_z-of_z}
use mir.Syntax.{w64}
use mathlib.Core.Path.{sym, ◌∙◌, ap, subst}
use mathlib.Core.List.{List}
use Prim.Native.Nat.{ℕ}
use Rattle.market.specs.declared.book.Book.{Book}
use Rattle.library_book.specs.BookWords.{book_in, FitsBook}
use Rattle.journal_step.specs.LineStep.{line_step}
use Rattle.library_line.specs.LibraryLine.{Memory, Returned, in_memory, journal_of, HeldIn, step_on, memory_after, taken}
use Rattle.library_line.proofs.JournalLaws.{line-held}
use Rattle.library_line.proofs.LineLaws.{enough, line-short, line-unsound, line-run}
use Rattle.tra_engine.proofs.tra_line.Goals as goal

pub returns-then-short : goal.returns-then-short
returns-then-short c =
    let a = c.args in
    let m = in_memory a.book.now a.account.now a.register.now a.room.now a.out.now a.used.now in
    let is = line-short m a.line.now (sym c.short.ensures ∙ c.if-short.true) in
    record {
      number = c.number.ensures ∙ ap (λ (x : Returned). x.number) is;
      memory = ap (λ (x : Returned). x.memory) is;
      state = λ e. absurd (let never : ⊥ = omega (arith, e) in never);
    }

pub encodes_book-requires : goal.encodes_book-requires
encodes_book-requires c =
    let a = c.args in
    (enough a.book.now a.register.now a.room.now a.out.now (sym c.short.ensures ∙ c.if-short.false)).words

pub returns-then-not-encodes_book : goal.returns-then-not-encodes_book
returns-then-not-encodes_book c =
    let a = c.args in
    let m = in_memory a.book.now a.account.now a.register.now a.room.now a.out.now a.used.now in
    let stood = c.encodes_book in
    let fails = sym stood.ensures ∙ c.if-not-encodes_book.true in
    let is = line-unsound m a.line.now (sym c.short.ensures ∙ c.if-short.false) fails in
    record {
      number = c.number-then-not-encodes_book.ensures ∙ ap (λ (x : Returned). x.number) is;
      memory = ap (λ (x : Returned). x.memory) is;
      state = λ e. absurd (let never : ⊥ = omega (arith, e) in never);
    }

pub book_in-held-requires : goal.book_in-held-requires
book_in-held-requires c =
    let a = c.args in
    (enough a.book.now a.register.now a.room.now a.out.now
    (sym c.short.ensures ∙ c.if-short.false)).words

pub run-requires : goal.run-requires
run-requires c =
    let a = c.args in
    let long =
    enough a.book.now a.register.now a.room.now a.out.now
    (sym c.short.ensures
    ∙ c.if-short.false) in
    record {
      book_size_in_bounds = long.words;
      word_room_in_bounds = long.own;
      reply_room_in_bounds = long.text;
    }

pub returns : goal.returns
returns c =
    let a = c.args in
    let m = in_memory a.book.now a.account.now a.register.now a.room.now a.out.now a.used.now in
    let line = a.line.now in
    let register = a.register.now in
    let stood =
    c.encodes_book in
    let held = c.book_in-held in
    let is_held_lem =
    held.ensures
    ∙ ap (book_in a.book.now)
    (to_z-of_z {w = w64} {z = a.account.now}
    (record { sfits = omega arith })) in
    let cut = c.taken in
    let holds =
    sym stood.ensures ∙ c.if-not-encodes_book.false in
    let is = line-run m line (sym c.short.ensures ∙ c.if-short.false) holds in
    let done = c.run.ensures in
    let memory =
    done.memory
    ∙ ap (λ (l : List ℕ). memory_after m l (line_step (journal_of held.result) register l)) cut.ensures
    ∙ ap (λ (b : Book). memory_after m (taken line) (line_step (journal_of b) register (taken line))) is_held_lem
    in
    let fits =
    subst (λ (b : Book). FitsBook (line_step (journal_of b) register (taken line)).journal.book) is_held_lem
    (subst (λ (l : List ℕ). FitsBook (line_step (journal_of held.result) register l).journal.book) cut.ensures done.fits)
    in record {
      number = ap (λ (x : Returned). x.number) is;
      memory = memory ∙ ap (λ (x : Returned). x.memory) is;
      state = λ e. subst (λ (x : Memory). HeldIn x.book x.account (step_on m (taken line)).journal) (sym memory) (line-held m (taken line) fits);
    }
