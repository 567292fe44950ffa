use borrow.Author.Rules.{rules}
use native.Mathlib.Omega.{arith}
use Rattle.journal_fields.proofs.NumeralLaws.{digits-none, digits_more, too_large, ended-below, ended-above, ended-line}
use Rattle.journal_fields.proofs.digits_at.Goals as goal

pub loop-i-init : goal.loop-i-init
loop-i-init c =
    let a = c.args in
    digits-none a.line.now a.at a.limit c.requires

pub returns-then-c-lt-ZERO : goal.returns-then-c-lt-ZERO
returns-then-c-lt-ZERO c =
    let a = c.args in
    let to = c.loop-i in
    record {
      field = ended-below a.line.now a.at a.limit to.i to.value to.invariant (search rules) (omega arith);
      fits = search rules;
    }

pub returns-then-c-gt-NINE : goal.returns-then-c-gt-NINE
returns-then-c-gt-NINE c =
    let a = c.args in
    let to = c.loop-i in
    record {
      field = ended-above a.line.now a.at a.limit to.i to.value to.invariant (search rules) (omega arith);
      fits = search rules;
    }

pub returns-then-tenth-value : goal.returns-then-tenth-value
returns-then-tenth-value c =
    let a = c.args in
    let to = c.loop-i in
    record {
      field = too_large a.line.now a.at a.limit to.i to.value to.invariant (search rules) (omega arith) (omega arith) (omega arith);
      fits = search rules;
    }

pub returns-then-limit-tens : goal.returns-then-limit-tens
returns-then-limit-tens c =
    let a = c.args in
    let to = c.loop-i in
    record {
      field = too_large a.line.now a.at a.limit to.i to.value to.invariant (search rules) (omega arith) (omega arith) (omega arith);
      fits = search rules;
    }

pub loop-i-preserved : goal.loop-i-preserved
loop-i-preserved c =
    let a = c.args in
    let to = c.loop-i in
    rw c.from-digit.ensures
    (digits_more a.line.now a.at a.limit to.i to.value to.invariant (search rules) (omega arith) (omega arith) (omega arith))

pub returns : goal.returns
returns c =
    let a = c.args in
    let to = c.loop-i in
    record {
      field = ended-line a.line.now a.at a.limit to.i to.value to.invariant (omega arith);
      fits = search rules;
    }
