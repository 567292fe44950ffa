-- Two pieces, the mark and then the numbers: each call's contract adds its piece to what is written so far
-- (written_on), and the second piece completes the row (written_all).
use mathlib.Core.Path.{refl}
use mathlib.Core.List.{◌++◌}
use Rattle.journal_rows.specs.Rows.{spaced_numbers}
use Rattle.text_writing.proofs.PutLaws.{written_none, written-room, written-fits, written_on, written_all}
use Rattle.journal_rows.proofs.put_row.Goals as goal

pub put_bytes-next-requires : goal.put_bytes-next-requires
put_bytes-next-requires c =
    let start = c in
    let a = start.args in
    let mark = a.mark.now in
    let numbers = spaced_numbers a.numbers.now in
    let s = written_none a.out.now a.at (mark ++ numbers) start.requires in
    written-fits s mark numbers refl

pub put_spaced-requires : goal.put_spaced-requires
put_spaced-requires c =
    let start = c in
    let a = start.args in
    let mark = a.mark.now in
    let numbers = spaced_numbers a.numbers.now in
    let s = written_none a.out.now a.at (mark ++ numbers) start.requires in
    let put = c.put_bytes-next in
    written-room (written_on s mark numbers refl put.ensures)

pub returns : goal.returns
returns c =
    let start = c in
    let a = start.args in
    let mark = a.mark.now in
    let numbers = spaced_numbers a.numbers.now in
    let s = written_none a.out.now a.at (mark ++ numbers) start.requires in
    let put = c.put_bytes-next in
    let next = c.put_spaced in
    written_all (written_on s mark numbers refl put.ensures) next.ensures
