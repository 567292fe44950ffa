-- A text in two pieces, the word and the byte that ends it: `written_on` adds the word that `put_bytes` wrote, and
-- `put_byte` makes the store of the last byte the second piece, so that the whole is written (`written_all`).
use native.Mathlib.Omega.{arith}
use mathlib.Core.Path.{refl}
use mathlib.Core.List.{◌∷◌, [], ◌++◌}
use Rattle.text_writing.proofs.PutLaws.{put_byte, written_none, written-fits, written_on, written-room, written_all}
use Rattle.text_writing.proofs.put_word.Goals as goal

pub put_bytes-next-requires : goal.put_bytes-next-requires
put_bytes-next-requires c =
    let a = c.args in
    let s = written_none a.out.now a.at (a.word.now ++ (a.stop ∷ [])) c.requires in
    written-fits s a.word.now (a.stop ∷ []) refl

pub bounds-out-next : goal.bounds-out-next
bounds-out-next c =
    let a = c.args in
    let put = c.put_bytes-next in
    let s = written_none a.out.now a.at (a.word.now ++ (a.stop ∷ [])) c.requires in
    let t = written_on s a.word.now (a.stop ∷ []) refl put.ensures in
    omega (arith, written-room t)

pub overflow_add-result : goal.overflow_add-result
overflow_add-result c =
    let a = c.args in
    let put = c.put_bytes-next in
    let s = written_none a.out.now a.at (a.word.now ++ (a.stop ∷ [])) c.requires in
    let t = written_on s a.word.now (a.stop ∷ []) refl put.ensures in
    omega (arith, written-room t)

pub returns : goal.returns
returns c =
    let a = c.args in
    let put = c.put_bytes-next in
    let s = written_none a.out.now a.at (a.word.now ++ (a.stop ∷ [])) c.requires in
    let t = written_on s a.word.now (a.stop ∷ []) refl put.ensures in
    written_all t (record { place = refl; bytes = put_byte _ put.result a.stop (written-room t) })
