-- Two pieces, one space and then the digits: the stored byte is the first piece (put_byte), and put_number's contract
-- writes the second after it (written_all).
use mathlib.Core.Path.{refl, ◌∙◌}
use mathlib.Core.List.{[], ◌∷◌}
use native.Mathlib.Omega.{arith}
use lib.ListN.{length-set}
use Rattle.text_numbers.specs.Decimal.{decimal}
use Rattle.text_fields.specs.Fields.{space}
use Rattle.text_writing.proofs.PutLaws.{put_byte, written_none, written_on, written-room, written_all}
use Rattle.journal_rows.proofs.put_behind_space.Goals as goal

pub put_number-requires : goal.put_number-requires
put_number-requires c =
    let start = c in
    let a = start.args in
    let s = written_none a.out.now a.at (space ∷ decimal a.n) start.requires in
    written-room (written_on s (space ∷ []) (decimal a.n) refl (record { place = refl; bytes = put_byte a.out.now a.at space (omega arith) }))

pub shape_of-out : goal.shape_of-out
shape_of-out c = c.put_number.auto.out ∙ simp length-set

pub returns : goal.returns
returns c =
    let start = c in
    let put = c.put_number in
    let a = start.args in
    let s = written_none a.out.now a.at (space ∷ decimal a.n) start.requires in
    let t = written_on s (space ∷ []) (decimal a.n) refl (record { place = refl; bytes = put_byte a.out.now a.at space (omega (arith, start.requires)) }) in
    written_all t put.ensures
