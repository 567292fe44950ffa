-- The table is the rows for what is lent and then open's own: a refusal of the first part is the whole table's
-- (first-refuses); where there is none open's own rows decide (second-decides), and the quantities are long enough
-- (lent-cleared).
use mathlib.Core.Path.{◌≡◌, sym, ◌∙◌}
use mathlib.Core.List.{◌++◌}
use Rattle.std.proofs.Common.{rules}
use Rattle.std.specs.Prelude.{Err}
use Rattle.market.proofs.Tables.{second-decides}
use Rattle.register.specs.Refusals.{register_refusals}
use Rattle.call_rules.specs.Steps.{verdict_of}
use Rattle.call_rules.proofs.Decides.{first-refuses}
use Rattle.call_open.proofs.Cleared.{lent-cleared}
use Rattle.call_open.specs.Open.{short_quantities, open_refusals, «open»}
use Rattle.call_open.proofs.check.Goals as goal

pub returns-in_err-check_lent : goal.returns-in_err-check_lent
unfolding verdict_of «open»
returns-in_err-check_lent c = λ kind.
    let a = c.args in
    let is : c.from_residual.result ≡ Err c.in_err-check_lent.field-0.0 = search rules in
    is
    ∙ first-refuses (short_quantities a.book a.quantities.now ++ register_refusals a.book a.words.now)
    (open_refusals a.book a.period a.quantities.now)
    (sym c.check_lent.ensures ∙ c.in_err-check_lent.was)

pub check_own-requires : goal.check_own-requires
check_own-requires c =
    let a = c.args in
    (lent-cleared a.book a.words.now a.quantities.now
    (sym c.check_lent.ensures ∙ c.in_ok-check_lent.was)).long

pub returns : goal.returns
unfolding verdict_of «open»
returns c = λ kind.
    let a = c.args in
    c.check_own.ensures
    ∙ sym
    (second-decides (short_quantities a.book a.quantities.now ++ register_refusals a.book a.words.now)
    (open_refusals a.book a.period a.quantities.now)
    (sym c.check_lent.ensures ∙ c.in_ok-check_lent.was))
