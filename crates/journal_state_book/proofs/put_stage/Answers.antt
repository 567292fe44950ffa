-- By cases on the stage: idle is its mark alone, an open auction is what put_open writes. Either piece is the whole
-- text, so one written piece completes it (written-done).
use mathlib.Core.Path.{refl, sym, ◌∙◌, ap}
use mathlib.Core.List.{[], append-nil}
use Rattle.text_writing.proofs.PutLaws.{written_none, written-fits, written_on, written-done}
use Rattle.journal_state_book.specs.States.{open_text, stage_text}
use Rattle.journal_state_book.specs.Words as words
use Rattle.journal_state_book.proofs.put_stage.Goals as goal

pub put_bytes-requires : goal.put_bytes-requires
put_bytes-requires c =
    let a = c.args in
    let s = written_none a.out.now a.at (stage_text a.stage) c.requires in
    let piece = words.idle_mark in
    let e = ap stage_text c.in-Idle.is ∙ sym (append-nil piece) in
    written-fits s piece [] e

pub put_open-requires : goal.put_open-requires
put_open-requires c =
    let a = c.args in
    let s = written_none a.out.now a.at (stage_text a.stage) c.requires in
    let had = c.in-Open in
    let piece = open_text had.kind had.round had.period in
    let e = ap stage_text c.in-Open.is ∙ sym (append-nil piece) in
    written-fits s piece [] e

pub returns-in-Idle : goal.returns-in-Idle
returns-in-Idle c =
    let a = c.args in
    let s = written_none a.out.now a.at (stage_text a.stage) c.requires in
    let piece = words.idle_mark in
    let e = ap stage_text c.in-Idle.is ∙ sym (append-nil piece) in
    let put = c.put_bytes in
    written-done (written_on s piece [] e put.ensures) refl

pub returns-in-Open : goal.returns-in-Open
returns-in-Open c =
    let a = c.args in
    let s = written_none a.out.now a.at (stage_text a.stage) c.requires in
    let had = c.in-Open in
    let piece = open_text had.kind had.round had.period in
    let e = ap stage_text c.in-Open.is ∙ sym (append-nil piece) in
    let put = c.put_open in
    written-done (written_on s piece [] e put.ensures) refl
