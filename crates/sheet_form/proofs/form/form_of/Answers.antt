-- A text that is too long and one without a title are faulty; otherwise the form is that of the sections after the title.
use mathlib.Core.Path.{◌≡◌, sym, ◌∙◌, ap₂}
use Prim.Native.Nat.{ℕ}
use lib.ListN.{drop}
use Rattle.market.specs.declared.book.Kind.{Kind}
use Rattle.sheet_lines.specs.Lines.{title_used}
use Rattle.sheet_form.specs.Form.{parts_of, form_from, form_only}
use Rattle.sheet_form.proofs.FormLaws.{too_long, no-title, with-title}
use Rattle.sheet_form.proofs.form.form_of.Goals as goal

pub returns-then-bytes-gt-SHEET_BYTES-clause-form : goal.returns-then-bytes-gt-SHEET_BYTES-clause-form
returns-then-bytes-gt-SHEET_BYTES-clause-form c = too_long c.args.bytes.now c.if-bytes-gt-SHEET_BYTES.true

pub returns-then-title-eq0-clause-form : goal.returns-then-title-eq0-clause-form
returns-then-title-eq0-clause-form c =
    no-title c.args.bytes.now c.if-bytes-gt-SHEET_BYTES.false (sym c.title_used-title.ensures.title ∙ c.if-title-eq0.true)

pub returns-clause-form : goal.returns-clause-form
returns-clause-form c =
    let bytes = c.args.bytes.now in
    let title = c.title_used-title in
    let whole = c.sections_form.ensures.form ∙ ap₂ (λ (k : Kind) (n : ℕ). form_from (parts_of k) 2 (drop n bytes)) c.kind_in.ensures title.ensures.title in
    with-title bytes (form_only c.sections_form.result) c.if-bytes-gt-SHEET_BYTES.false (λ (none : title_used bytes ≡ 0). c.if-title-eq0.false (title.ensures.title ∙ none)) whole
