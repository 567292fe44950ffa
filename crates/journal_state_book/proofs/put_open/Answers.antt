-- By cases on the kind: each arm writes one row with the rule's mark of that kind, and this row is the whole text, so
-- one written piece completes it (written-done).
use mathlib.Core.Path.{refl, sym, ◌∙◌, ap}
use mathlib.Core.List.{[], ◌∷◌, append-nil}
use Rattle.market.specs.declared.book.Kind.{Kind}
use Rattle.journal_rows.specs.Rows.{row}
use Rattle.text_writing.proofs.PutLaws.{written_none, written-fits, written_on, written-done}
use Rattle.journal_state_book.specs.States.{kind_mark, open_text}
use Rattle.journal_state_book.specs.Words as words
use Rattle.journal_state_book.proofs.put_open.Goals as goal

pub put_row-requires : goal.put_row-requires
put_row-requires c =
    let a = c.args in
    let ns = a.round ∷ a.period.first.0 ∷ a.period.last.0 ∷ [] in
    let piece = row words.short_mark ns in
    let s = written_none a.out.now a.at (open_text a.kind a.round a.period) c.requires in
    let e = ap (λ (k : Kind). row (kind_mark k) ns) c.in-Short.is ∙ sym (append-nil piece) in
    written-fits s piece [] e

pub put_row-requires-in-Long : goal.put_row-requires-in-Long
put_row-requires-in-Long c =
    let a = c.args in
    let ns = a.round ∷ a.period.first.0 ∷ a.period.last.0 ∷ [] in
    let piece = row words.long_mark ns in
    let s = written_none a.out.now a.at (open_text a.kind a.round a.period) c.requires in
    let e = ap (λ (k : Kind). row (kind_mark k) ns) c.in-Long.is ∙ sym (append-nil piece) in
    written-fits s piece [] e

pub returns-in-Short : goal.returns-in-Short
returns-in-Short c =
    let a = c.args in
    let ns = a.round ∷ a.period.first.0 ∷ a.period.last.0 ∷ [] in
    let piece = row words.short_mark ns in
    let s = written_none a.out.now a.at (open_text a.kind a.round a.period) c.requires in
    let e = ap (λ (k : Kind). row (kind_mark k) ns) c.in-Short.is ∙ sym (append-nil piece) in
    let put = c.put_row in
    written-done (written_on s piece [] e put.ensures) refl

pub returns-in-Long : goal.returns-in-Long
returns-in-Long c =
    let a = c.args in
    let ns = a.round ∷ a.period.first.0 ∷ a.period.last.0 ∷ [] in
    let piece = row words.long_mark ns in
    let s = written_none a.out.now a.at (open_text a.kind a.round a.period) c.requires in
    let e = ap (λ (k : Kind). row (kind_mark k) ns) c.in-Long.is ∙ sym (append-nil piece) in
    let put = c.put_row-in-Long in
    written-done (written_on s piece [] e put.ensures) refl
