-- By cases on whether all of the bidder is 0: then the text is empty (bidder-none), otherwise it is one row, which
-- completes the text (bidder-some). That the row fits the buffer is bidder-fits.
use native.Mathlib.Omega.{arith}
use mathlib.Core.Path.{refl, sym, ◌∙◌}
use mathlib.Core.List.{[]}
use Rattle.text_writing.proofs.PutLaws.{written_none, written-fits, written_on, written-done}
use Rattle.journal_state_book.specs.States.{bidder_text, bidder_part}
use Rattle.journal_state_book.proofs.StateLaws.{bidder-none, bidder-some, bidder-fits}
use Rattle.journal_state_lists.proofs.put_bidder.Goals as goal

pub returns-then-is_blank : goal.returns-then-is_blank
returns-then-is_blank c =
    let a = c.args in
    let s = written_none a.out.now 0 (bidder_part a.i a.bidder) (omega (arith, bidder-fits a.i a.bidder, c.requires)) in
    let e = bidder-none a.i a.bidder (sym c.is_blank.ensures ∙ c.if-is_blank.true) in
    written-done s e

pub put_last_row-requires : goal.put_last_row-requires
put_last_row-requires c =
    let a = c.args in
    let piece = bidder_text a.i a.bidder in
    let s = written_none a.out.now 0 (bidder_part a.i a.bidder) (omega (arith, bidder-fits a.i a.bidder, c.requires)) in
    let e =
    bidder-some a.i a.bidder
    (sym c.is_blank.ensures
    ∙ c.if-is_blank.false) in
    written-fits s piece [] e

pub returns : goal.returns
returns c =
    let a = c.args in
    let piece = bidder_text a.i a.bidder in
    let s = written_none a.out.now 0 (bidder_part a.i a.bidder) (omega (arith, bidder-fits a.i a.bidder, c.requires)) in
    let e =
    bidder-some a.i a.bidder
    (sym c.is_blank.ensures
    ∙ c.if-is_blank.false) in
    let put = c.put_last_row in
    written-done (written_on s piece [] e put.ensures) refl
