-- By cases on what is told: nothing is a row without numbers, a list is a row of its numbers. In both cases the row is
-- the whole text, so one written piece completes it (written-done).
use native.Mathlib.Omega.{arith}
use mathlib.Core.Path.{refl, sym, ◌∙◌, ap}
use mathlib.Core.List.{[], append-nil}
use Rattle.journal_rows.specs.Rows.{last_row}
use Rattle.text_writing.proofs.PutLaws.{written_none, written-fits, written_on, written-done}
use Rattle.journal_reply.specs.Replies.{done_text}
use Rattle.journal_reply.specs.Words as words
use Rattle.journal_reply.specs.declared.Told.{Told}
use Rattle.journal_reply.proofs.put_done.Goals as goal

pub put_last_row-requires : goal.put_last_row-requires
put_last_row-requires c =
    let a = c.args in
    let whole = done_text a.told a.list.now in
    let s = written_none a.out.now 0 whole (omega (arith, c.requires)) in
    let e = ap (λ (t : Told). done_text t a.list.now) c.in-Nothing.is ∙ sym (append-nil (last_row words.ok_mark [])) in
    written-fits s (last_row words.ok_mark []) [] e

pub put_last_row-requires-in-Listed : goal.put_last_row-requires-in-Listed
put_last_row-requires-in-Listed c =
    let a = c.args in
    let whole = done_text a.told a.list.now in
    let s = written_none a.out.now 0 whole (omega (arith, c.requires)) in
    let e = ap (λ (t : Told). done_text t a.list.now) c.in-Listed.is ∙ sym (append-nil (last_row words.ok_mark a.list.now)) in
    written-fits s (last_row words.ok_mark a.list.now) [] e

pub returns-in-Nothing : goal.returns-in-Nothing
returns-in-Nothing c =
    let a = c.args in
    let whole = done_text a.told a.list.now in
    let s = written_none a.out.now 0 whole (omega (arith, c.requires)) in
    let e = ap (λ (t : Told). done_text t a.list.now) c.in-Nothing.is ∙ sym (append-nil (last_row words.ok_mark [])) in
    let put = c.put_last_row in
    written-done (written_on s (last_row words.ok_mark []) [] e put.ensures) refl

pub returns-in-Listed : goal.returns-in-Listed
returns-in-Listed c =
    let a = c.args in
    let whole = done_text a.told a.list.now in
    let s = written_none a.out.now 0 whole (omega (arith, c.requires)) in
    let e = ap (λ (t : Told). done_text t a.list.now) c.in-Listed.is ∙ sym (append-nil (last_row words.ok_mark a.list.now)) in
    let put = c.put_last_row-in-Listed in
    written-done (written_on s (last_row words.ok_mark a.list.now) [] e put.ensures) refl
