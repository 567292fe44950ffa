-- A zero in front of another digit is no number (zero-first); otherwise the number is what the digits say (other-first,
-- few-first).
use native.Mathlib.Omega.{arith}
use mathlib.Core.Path.{◌∙◌, ap}
use borrow.Author.Rules.{rules}
use Rattle.text_fields.specs.declared.Field.{Field}
use Rattle.journal_fields.proofs.FieldLaws.{numeral-kept}
use Rattle.journal_fields.proofs.NumeralLaws.{here, zero-first, other-first, few-first}
use Rattle.journal_fields.proofs.numeral_at.Goals as goal

pub bounds-line-at : goal.bounds-line-at
bounds-line-at c =
    let a = c.args in
    let e = c.digits_at-found.ensures.field in
    (here a.limit a.line.now a.at (omega (arith, c.if-found-gt1.true, ap (λ (f : Field). f.used) e))).within

pub returns-then-line-at-eq-ZERO : goal.returns-then-line-at-eq-ZERO
returns-then-line-at-eq-ZERO c =
    let a = c.args in
    let e = c.digits_at-found.ensures.field in
    let field = zero-first a.limit a.line.now a.at (omega (arith, c.if-found-gt1.true, ap (λ (f : Field). f.used) e)) c.if-line-at-eq-ZERO.true in
    record { field = field; within = numeral-kept a.limit _ _ field; fits = search rules }

pub returns-else-line-at-eq-ZERO : goal.returns-else-line-at-eq-ZERO
returns-else-line-at-eq-ZERO c =
    let a = c.args in
    let e = c.digits_at-found.ensures in
    let used = ap (λ (f : Field). f.used) e.field in
    let field = e.field ∙ other-first a.limit a.line.now a.at (omega (arith, c.if-found-gt1.true, used)) c.if-line-at-eq-ZERO.false in
    record { field = field; within = numeral-kept a.limit _ _ field; fits = e.fits }

pub returns-else-found-gt1 : goal.returns-else-found-gt1
returns-else-found-gt1 c =
    let a = c.args in
    let e = c.digits_at-found.ensures in
    let field = e.field ∙ few-first a.limit _ (omega (arith, c.if-found-gt1.false, ap (λ (f : Field). f.used) e.field)) in
    record { field = field; within = numeral-kept a.limit _ _ field; fits = e.fits }
