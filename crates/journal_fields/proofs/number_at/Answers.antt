-- Three cases: no space (number-absent), a space but no number after it (number-empty), a space and a number, which
-- takes one byte more with its space (number-here). A space that is present leaves at + 1 within the line (word_room).
use borrow.Author.Rules.{rules}
use native.Mathlib.Omega.{arith}
use mathlib.Core.Path.{sym, ◌∙◌}
use mathlib.Core.List.{[], ◌∷◌}
use Rattle.text_fields.specs.Fields.{space}
use Rattle.journal_fields.proofs.FieldLaws.{number-kept, word_room, number-absent, number-empty, number-here}
use Rattle.journal_fields.proofs.number_at.Goals as goal

pub returns-then-not-starts_with : goal.returns-then-not-starts_with
returns-then-not-starts_with c =
    let a = c.args in
    let word = c.starts_with in
    let field = number-absent a.line.now a.at a.limit (sym word.ensures ∙ c.if-not-starts_with.true) in
    record { field = field; within = number-kept a.limit _ _ field; fits = search rules }

pub numeral_at-found-requires : goal.numeral_at-found-requires
numeral_at-found-requires c =
    let a = c.args in
    let word = c.starts_with in
    word_room (space ∷ []) a.line.now a.at (search rules) (sym word.ensures ∙ c.if-not-starts_with.false)

pub returns-then-found-eq0 : goal.returns-then-found-eq0
returns-then-found-eq0 c =
    let a = c.args in
    let word = c.starts_with in
    let found = c.numeral_at-found in
    let field = number-empty a.line.now a.at a.limit (sym word.ensures ∙ c.if-not-starts_with.false) found.result found.ensures.field (omega arith) in
    record { field = field; within = number-kept a.limit _ _ field; fits = search rules }

pub returns : goal.returns
returns c =
    let a = c.args in
    let word = c.starts_with in
    let found = c.numeral_at-found in
    let field = number-here a.line.now a.at a.limit (sym word.ensures ∙ c.if-not-starts_with.false) found.result found.ensures.field
    c.if-found-eq0.false in
    record { field = field; within = number-kept a.limit _ _ field; fits = omega (arith, found.ensures.fits) }
