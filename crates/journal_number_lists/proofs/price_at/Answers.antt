-- Three cases: a minus sign with no number above 0 after it, which is no price (price-zero), a minus sign and a size
-- (price-below), no minus sign (price-above). Each size was read with the limit price_top, so the price fits with either
-- sign.
use borrow.Author.Rules.{rules}
use native.Mathlib.Omega.{arith}
use mathlib.Core.Path.{sym, ◌∙◌}
use Prim.Native.Nat.{◌≤◌}
use mir.Facts.{to_z-of_z, to_z_pos}
use mir.Syntax.{w64}
use Rattle.journal_fields.specs.JournalFields.{minus, price_top}
use Rattle.journal_fields.proofs.FieldLaws.{word_room}
use Rattle.journal_number_lists.proofs.PriceLaws.{price-zero, price-below, price-above, below-fits, opposite}
use Rattle.journal_number_lists.proofs.price_at.Goals as goal

pub numeral_at-size-requires : goal.numeral_at-size-requires
numeral_at-size-requires c =
    let a = c.args in
    let word = c.starts_with in
    word_room minus a.line.now a.at (search rules) (sym word.ensures ∙ c.if-starts_with.true)

pub returns-then-size-eq0-clause-price : goal.returns-then-size-eq0-clause-price
returns-then-size-eq0-clause-price c =
    let a = c.args in
    let size = c.numeral_at-size in
    price-zero a.line.now a.at (sym c.starts_with.ensures ∙ c.if-starts_with.true) size.result size.ensures.field (omega arith)

pub overflow_sub-result : goal.overflow_sub-result
overflow_sub-result c =
    let a = c.args in
    let size = c.numeral_at-size in
    let few : size.result.value ≤ price_top = omega (arith, size.ensures.within) in
    rw (to_z_pos w64 {n = size.result.value} (omega arith), opposite size.result.value) (below-fits size.result.value few)

pub returns-then-starts_with-clause-price : goal.returns-then-starts_with-clause-price
returns-then-starts_with-clause-price c =
    let a = c.args in
    let size = c.numeral_at-size in
    let few : size.result.value ≤ price_top = omega (arith, size.ensures.within) in
    rw (to_z_pos w64 {n = size.result.value} (omega arith), opposite size.result.value, to_z-of_z (below-fits size.result.value few))
    (price-below a.line.now a.at (sym c.starts_with.ensures ∙ c.if-starts_with.true) size.result size.ensures.field c.if-size-eq0.false)

pub returns-clause-price : goal.returns-clause-price
returns-clause-price c =
    let a = c.args in
    let found = c.number_at-found in
    let few : found.result.value ≤ price_top = omega (arith, found.ensures.within) in
    rw (to_z_pos w64 {n = found.result.value} (omega arith))
    (price-above a.line.now a.at (sym c.starts_with.ensures ∙ c.if-starts_with.false) found.result found.ensures.field)
