-- By cases on the verdict: a refusal is the rule's (refuses); none gives its answer (takes). Where no row
-- holds, rent-cleared gives the sound book and the bound on the amount that with_rent requires.
use mathlib.Core.Path.{sym, ◌∙◌, ap}
use Rattle.market.specs.Answers.{answered}
use Rattle.call_rules.proofs.Decides.{refuses, takes}
use Rattle.call_rules.specs.Steps.{no_register}
use Rattle.call_rent.proofs.Cleared.{rent-cleared}
use Rattle.call_rent.specs.Rent.{rent}
use Rattle.call_rent.proofs.rent.Goals as goal

pub returns-in-Err : goal.returns-in-Err
returns-in-Err c =
    let a = c.args in
    refuses (rent a.amount) a.book no_register _ c.check.ensures c.in-Err.is

pub with_rent-requires : goal.with_rent-requires
with_rent-requires c =
    let a = c.args in
    let clear = rent-cleared a.book a.amount (sym c.check.ensures ∙ c.in_default.is) in
    record { book_value = clear.0; amount_le_money_limit = clear.1 }

pub returns : goal.returns
unfolding rent
returns c =
    let a = c.args in
    ap answered c.with_rent.ensures
    ∙ takes (rent a.amount) a.book no_register _ c.check.ensures c.in_default.is
