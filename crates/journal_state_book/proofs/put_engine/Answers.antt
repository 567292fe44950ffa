-- Two pieces, the release and then the rule edition with the line's end, the second written where the first ends
-- (written_all); the whole line fits the buffer by engine-fits.
use native.Mathlib.Omega.{arith}
use mathlib.Core.Path.{refl}
use mathlib.Core.List.{[], ◌∷◌}
use Rattle.market.specs.Limits.{release, rule_edition}
use Rattle.journal_rows.specs.Rows.{row, last_row}
use Rattle.text_writing.proofs.PutLaws.{written_none, written-fits, written_on, written-room, written_all}
use Rattle.journal_state_book.specs.States.{engine_text}
use Rattle.journal_state_book.specs.Words as words
use Rattle.journal_state_book.proofs.StateLaws.{engine-fits}
use Rattle.journal_state_book.proofs.put_engine.Goals as goal

pub put_row-next-requires : goal.put_row-next-requires
put_row-next-requires c =
    let start = c in
    let a = start.args in
    let first = row words.engine_mark (release ∷ []) in
    let second = last_row words.rules_mark (rule_edition ∷ []) in
    let s = written_none a.out.now 0 engine_text (omega (arith, engine-fits, start.requires)) in
    written-fits s first second refl

pub put_last_row-requires : goal.put_last_row-requires
put_last_row-requires c =
    let start = c in
    let a = start.args in
    let first = row words.engine_mark (release ∷ []) in
    let second = last_row words.rules_mark (rule_edition ∷ []) in
    let s = written_none a.out.now 0 engine_text (omega (arith, engine-fits, start.requires)) in
    let put = c.put_row-next in
    let t = written_on s first second refl put.ensures in
    written-room t

pub returns : goal.returns
returns c =
    let start = c in
    let a = start.args in
    let first = row words.engine_mark (release ∷ []) in
    let second = last_row words.rules_mark (rule_edition ∷ []) in
    let s = written_none a.out.now 0 engine_text (omega (arith, engine-fits, start.requires)) in
    let put = c.put_row-next in
    let t = written_on s first second refl put.ensures in
    let next = c.put_last_row in
    written_all t next.ensures
