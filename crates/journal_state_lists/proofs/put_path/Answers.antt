-- Two pieces, the row with the path's number and then what put_offer writes, the second where the first ends
-- (written_all); the whole line fits the buffer by path-fits.
use native.Mathlib.Omega.{arith}
use mathlib.Core.Path.{refl}
use mathlib.Core.List.{[], ◌∷◌}
use Rattle.journal_rows.specs.Rows.{row}
use Rattle.text_writing.proofs.PutLaws.{written_none, written-fits, written_on, written-room, written_all}
use Rattle.journal_state_book.specs.States.{offer_text, path_text}
use Rattle.journal_state_book.specs.Words as words
use Rattle.journal_state_book.proofs.StateLaws.{path-fits}
use Rattle.journal_state_lists.proofs.put_path.Goals as goal

pub put_row-next-requires : goal.put_row-next-requires
put_row-next-requires c =
    let a = c.args in
    let first = row words.path_mark (a.i ∷ []) in
    let second = offer_text a.path in
    let s = written_none a.out.now 0 (path_text a.i a.path) (omega (arith, path-fits a.i a.path, c.requires)) in
    written-fits s first second refl

pub put_offer-requires : goal.put_offer-requires
put_offer-requires c =
    let a = c.args in
    let first = row words.path_mark (a.i ∷ []) in
    let second = offer_text a.path in
    let s = written_none a.out.now 0 (path_text a.i a.path) (omega (arith, path-fits a.i a.path, c.requires)) in
    let put = c.put_row-next in
    let t = written_on s first second refl put.ensures in
    written-room t

pub returns : goal.returns
returns c =
    let a = c.args in
    let first = row words.path_mark (a.i ∷ []) in
    let second = offer_text a.path in
    let s = written_none a.out.now 0 (path_text a.i a.path) (omega (arith, path-fits a.i a.path, c.requires)) in
    let put = c.put_row-next in
    let t = written_on s first second refl put.ensures in
    let next = c.put_offer in
    written_all t next.ensures
