-- A text in two pieces, the digits and the byte that ends them: `written_on` adds the digits that `put_number` wrote,
-- and `put_byte` makes the store of the last byte the second piece, so that the whole is written (`written_all`).
use native.Mathlib.Omega.{arith}
use mathlib.Core.Path.{refl}
use mathlib.Core.List.{◌∷◌, []}
use Rattle.text_numbers.specs.Decimal.{decimal}
use Rattle.text_fields.specs.Fields.{field_text}
use Rattle.text_writing.proofs.PutLaws.{put_byte, written_none, written-fits, written_on, written-room, written_all}
use Rattle.text_writing.proofs.put_field.Goals as goal

pub put_number-end-requires : goal.put_number-end-requires
put_number-end-requires c =
    let a = c.args in
    let s = written_none a.out.now a.at (field_text a.n a.stop) c.requires in
    written-fits s (decimal a.n) (a.stop ∷ []) refl

pub bounds-out-end : goal.bounds-out-end
bounds-out-end c =
    let a = c.args in
    let put = c.put_number-end in
    let s = written_none a.out.now a.at (field_text a.n a.stop) c.requires in
    let t = written_on s (decimal a.n) (a.stop ∷ []) refl put.ensures in
    omega (arith, written-room t)

pub overflow_add-result : goal.overflow_add-result
overflow_add-result c =
    let a = c.args in
    let put = c.put_number-end in
    let s = written_none a.out.now a.at (field_text a.n a.stop) c.requires in
    let t = written_on s (decimal a.n) (a.stop ∷ []) refl put.ensures in
    omega (arith, written-room t)

pub returns : goal.returns
returns c =
    let a = c.args in
    let put = c.put_number-end in
    let s = written_none a.out.now a.at (field_text a.n a.stop) c.requires in
    let t = written_on s (decimal a.n) (a.stop ∷ []) refl put.ensures in
    written_all t (record { place = refl; bytes = put_byte _ put.result a.stop (written-room t) })
