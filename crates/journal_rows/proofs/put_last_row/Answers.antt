-- Two pieces, the row and then byte 10: each call's contract adds its piece to what is written so far (written_on), and
-- the byte completes the line (written_all).
use mathlib.Core.Path.{refl}
use mathlib.Core.List.{[], ◌∷◌}
use Rattle.text_fields.specs.Fields.{newline}
use Rattle.journal_rows.specs.Rows.{row, last_row}
use Rattle.text_writing.proofs.PutLaws.{written_none, written-room, written-fits, written_on, written_all}
use Rattle.journal_rows.proofs.put_last_row.Goals as goal

pub put_row-end-requires : goal.put_row-end-requires
put_row-end-requires c =
    let start = c in
    let a = start.args in
    let numbers = row a.mark.now a.numbers.now in
    let s = written_none a.out.now a.at (last_row a.mark.now a.numbers.now) start.requires in
    written-fits s numbers (newline ∷ []) refl

pub put_bytes-requires : goal.put_bytes-requires
put_bytes-requires c =
    let start = c in
    let a = start.args in
    let numbers = row a.mark.now a.numbers.now in
    let s = written_none a.out.now a.at (last_row a.mark.now a.numbers.now) start.requires in
    let put = c.put_row-end in
    written-room (written_on s numbers (newline ∷ []) refl put.ensures)

pub returns : goal.returns
returns c =
    let start = c in
    let a = start.args in
    let numbers = row a.mark.now a.numbers.now in
    let s = written_none a.out.now a.at (last_row a.mark.now a.numbers.now) start.requires in
    let put = c.put_row-end in
    let end = c.put_bytes in
    written_all (written_on s numbers (newline ∷ []) refl put.ensures) end.ensures
