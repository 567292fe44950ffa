-- By cases: a buffer that is too short is refused and left as it is (`too_short`); a faulty form prints its line
-- (`faulty-output`); a right one prints what `run` writes (`right-output`), and its places are those that `form_of`
-- ensures.
use mathlib.Core.Path.{sym}
use native.Mathlib.Omega.{arith}
use Rattle.sheet_output.proofs.OutputLaws.{right-output, faulty-output, too_short, filled-with}
use Rattle.sheet_output.proofs.output.Goals as goal

pub returns-then-out-lt-AWARD_SHEET_BYTES : goal.returns-then-out-lt-AWARD_SHEET_BYTES
returns-then-out-lt-AWARD_SHEET_BYTES c =
    let all = too_short c.args.bytes.now c.args.out.now (omega (arith, c.if-out-lt-AWARD_SHEET_BYTES.true)) in
    record { answer = all.0; buffer = all.1 }

pub returns-in-Ok : goal.returns-in-Ok
returns-in-Ok c =
    let a = c.args in
    let output = right-output a.bytes.now (sym c.in-Ok.ensures.form) in
    let all = filled-with a.bytes.now a.out.now (omega (arith, c.if-out-lt-AWARD_SHEET_BYTES.false)) output c.run-count.ensures in
    record { answer = all.0; buffer = all.1 }

pub returns-in-Err : goal.returns-in-Err
returns-in-Err c =
    let a = c.args in
    let output = faulty-output a.bytes.now (sym c.in-Err.ensures.form) in
    let all = filled-with a.bytes.now a.out.now (omega (arith, c.if-out-lt-AWARD_SHEET_BYTES.false)) output c.faulty-count.ensures in
    record { answer = all.0; buffer = all.1 }
