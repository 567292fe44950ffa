use native.Mathlib.Omega.{arith}
use mathlib.Core.Path.{◌≡◌, subst}
use Prim.Native.Nat.{◌+◌, ◌-◌}
use Rattle.sheet_form.proofs.FormLaws.{LinesTo, line-faulty, line_read}
use Rattle.sheet_form.proofs.form.lines_from.Goals as goal

pub returns-then-step-eq0-clause-read : goal.returns-then-step-eq0-clause-read
returns-then-step-eq0-clause-read c =
    let a = c.args in
    let to = c.loop-n in
    let step = c.line_at-step in
    line-faulty a.part a.bytes.now a.at a.count to.n to.used to.state (a.count - to.n) to.invariant (omega (arith, c.loop-n-test.true)) step.result step.ensures.line
    c.if-step-eq0.true

pub loop-n-preserved : goal.loop-n-preserved
loop-n-preserved c =
    let a = c.args in
    let to = c.loop-n in
    let step = c.line_at-step in
    let left : a.count - to.n - 1 ≡ a.count - (to.n + 1) = omega arith in
    subst (LinesTo a.part a.bytes.now a.at a.count (to.n + 1) (to.used + step.result.used) step.result.next) left
    (line_read a.part a.bytes.now a.at a.count to.n to.used to.state (a.count - to.n) to.invariant (omega (arith, c.loop-n-test.true)) step.result
    step.ensures.line c.if-step-eq0.false step.ensures.fits)
