-- A line in two pieces, the word with its space and the number with its newline; `append_assoc` splits the line so.
-- `written_on` adds the first piece, which leaves the room that the second needs, and `written_all` the second.
use mathlib.Core.Path.{sym}
use mathlib.Core.List.{◌∷◌, [], ◌++◌, append_assoc}
use Rattle.text_fields.specs.Fields.{space, newline, count_line, field_text}
use Rattle.text_writing.proofs.PutLaws.{written_none, written-fits, written_on, written-room, written_all}
use Rattle.text_writing.proofs.put_count.Goals as goal

pub put_word-next-requires : goal.put_word-next-requires
put_word-next-requires c =
    let a = c.args in
    let w = a.word.now in
    let n = field_text a.n newline in
    let s = written_none a.out.now a.at (count_line w a.n) c.requires in
    written-fits s (w ++ (space ∷ [])) n (sym (append_assoc w (space ∷ []) n))

pub put_field-requires : goal.put_field-requires
put_field-requires c =
    let a = c.args in
    let w = a.word.now in
    let n = field_text a.n newline in
    let put = c.put_word-next in
    let s = written_none a.out.now a.at (count_line w a.n) c.requires in
    let t = written_on s (w ++ (space ∷ [])) n (sym (append_assoc w (space ∷ []) n)) put.ensures in
    written-room t

pub returns : goal.returns
returns c =
    let a = c.args in
    let w = a.word.now in
    let n = field_text a.n newline in
    let put = c.put_word-next in
    let s = written_none a.out.now a.at (count_line w a.n) c.requires in
    let t = written_on s (w ++ (space ∷ [])) n (sym (append_assoc w (space ∷ []) n)) put.ensures in
    written_all t c.put_field.ensures
