-- The four columns are the rule's by column's contract, so the engine is lent what the rule lends (lent_same), and what it
-- leaves is the rule's.
use mathlib.Core.Path.{◌∙◌, ap}
use Rattle.engine.specs.Step.{step}
use Rattle.journal_step.proofs.LineLaws.{lent_same}
use Rattle.journal_step.proofs.call_lent.Goals as goal

pub returns : goal.returns
returns c =
    let a = c.args in
    let p = c.column-provincial in
    let q = c.column-export in
    let r = c.column-meters in
    let s = c.column-interties in
    let same =
    lent_same a.list.now a.prices.now a.amounts.now a.answers.now a.results.now a.scratch.now
    p.result.now q.result.now r.result.now s.result.now p.ensures q.ensures r.ensures s.ensures in
    c.call.ensures.by-rule ∙ ap (step a.book a.register.now a.call) same
