-- Each part of the memory is the rule's: the book by encode_book's contract, the account, register, reply and count by
-- answer_line's. The hard part is the room: answer_line is lent only its first WORD_ROOM words, and by laid-part a
-- write to these is a write to the whole room.
use mathlib.Core.List.{List, ◌++◌}
use Prim.Native.Nat.{ℕ}
use lib.ListN.{length, take, drop}
use mir.Facts.{to_z-of_z}
use mir.Syntax.{w64}
use mathlib.Core.Path.{◌≡◌, sym, ◌∙◌, ap, subst}
use lib.Seq.{length-take-le}
use Rattle.text_numbers.specs.Put.{put_at}
use Rattle.library_book.specs.BookWords.{book_words, FitsBook}
use Rattle.journal_step.specs.LineStep.{word_room, own_words}
use Rattle.journal_step.specs.declared.Journal.{Journal}
use Rattle.library_line.proofs.LineLaws.{laid-part}
use borrow.Author.Rules.{rules}
use Rattle.library_line.proofs.run.Goals as goal

pub slice_bounds-answer_line-end-2 : goal.slice_bounds-answer_line-end-2
slice_bounds-answer_line-end-2 c = sym (length-take-le word_room c.args.room.now (search rules))

pub answer_line-replied-requires : goal.answer_line-replied-requires
answer_line-replied-requires c =
    record {
      words_len = length-take-le word_room c.args.room.now (search rules);
      prices_len = search rules;
      reply_room_in_bounds = search rules;
    }

pub returns : goal.returns
returns c =
    let a = c.args in
    let room = a.room.now in
    let line = a.line.now in
    let reply = c.answer_line-replied in
    let done = reply.ensures in
    let laid = c.encode_book.ensures in
    let held = c.requires.word_room_in_bounds in
    let book =
    laid.words ∙ ap (λ (x : Journal). put_at a.book.now 0 (book_words x.book)) done.journal
    in
    let long : length reply.new.words ≡ length (take word_room room) = search reply.auto in
    let own =
    ap (λ (l : List ℕ). l ++ drop word_room room) done.words
    ∙ laid-part (own_words line) room word_room held (ap length (sym done.words) ∙ long ∙ length-take-le word_room room held)
    in
    let account =
    to_z-of_z {w = w64} {z = reply.result.journal.book.account.0} (record { sfits = search (rules, reply.type_inv) })
    ∙ ap (λ (x : Journal). x.book.account.0) done.journal
    in
    record {
      memory = λ j. record {
        book = book j;
        account = account j;
        register = done.register j;
        room = own j;
        out = done.bytes j;
        used = done.used j;
      };
      fits = subst (λ (x : Journal). FitsBook x.book) done.journal laid.fits;
    }
