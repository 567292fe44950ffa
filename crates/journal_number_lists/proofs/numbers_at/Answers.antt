use native.Mathlib.Omega.{arith}
use mathlib.Core.Path.{◌≡◌, sym, ◌∙◌, subst}
use Prim.Native.Nat.{ℕ, ◌+◌, ◌-◌}
use lib.ListN.{drop, set}
use Rattle.journal_number_lists.proofs.FoundLaws.{none-found, some-found}
use Rattle.journal_number_lists.proofs.SeriesLaws.{RunTo, run_ends, run_more}
use Rattle.journal_number_lists.proofs.numbers_at.Goals as goal

pub returns-in_default : goal.returns-in_default
returns-in_default g c =
    let n = g.N.Listed in
    let a = c.args in
    let run = c.loop-run.run in
    let none : n.used (drop (a.at + run.used) a.line.now) ≡ 0 = none-found n.used n.value _ (sym c.read.ensures.field ∙ c.in_default.is) in
    let r = run_ends n.used n.value a.line.now a.at a.out.now run.count (a.at + run.used) c.loop-run.out c.loop-run.invariant (omega arith) none in
    let all : a.at + run.used - a.at ≡ run.used = omega arith in
    record { count = r.0; used = sym all ∙ r.1.0; fits = omega (arith, r.1.1.0); list = r.1.1.1 }

pub loop-run-preserved : goal.loop-run-preserved
loop-run-preserved g c =
    let n = g.N.Listed in
    let a = c.args in
    let run = c.loop-run.run in
    let next = c.in-Some.next in
    let rest = drop (a.at + run.used) a.line.now in
    let read = some-found n.used n.value rest next (sym c.read.ensures.field ∙ c.in-Some.is) in
    let more = run_more n.used n.value a.line.now a.at a.out.now run.count (a.at + run.used) c.loop-run.out c.loop-run.invariant (omega arith) read.some c.read.ensures.fits in
    let place : a.at + run.used + n.used rest ≡ a.at + (run.used + next.used) = omega (arith, read.bytes) in
    subst (λ (k : ℕ). RunTo n.used n.value a.line.now a.at a.out.now (run.count + 1) k (set c.loop-run.out run.count next.value)) place
    (subst (λ x. RunTo n.used n.value a.line.now a.at a.out.now (run.count + 1) (a.at + run.used + n.used rest) (set c.loop-run.out run.count x)) read.says more)
