-- The table is the rows of the total and then those of the columns: a refusal of the first part is the whole table's
-- (first-refuses); where there is none the columns decide (second-decides), and the total is within its limit
-- (total_cleared).
use mathlib.Core.Path.{sym, ◌∙◌, ◌≡◌}
use mathlib.Core.List.{◌∷◌}
use Rattle.std.proofs.Common.{rules}
use Rattle.std.specs.Prelude.{Err}
use Rattle.market.proofs.Tables.{second-decides}
use Rattle.call_disburse.proofs.Cleared.{total_cleared}
use Rattle.pool_columns.specs.Pools.{column_refusals}
use Rattle.call_rules.specs.Rules.{unsound_book}
use Rattle.call_disburse.specs.Disbursement.{total_refusals}
use Rattle.call_rules.proofs.Decides.{first-refuses}
use Rattle.call_disburse.proofs.parts.check.Goals as goal

pub returns-in_err-check_total : goal.returns-in_err-check_total
returns-in_err-check_total c =
    let a = c.args in
    let is : c.from_residual.result ≡ Err c.in_err-check_total.field-0.0 = search rules in
    is
    ∙ first-refuses (unsound_book a.book ∷ total_refusals a.flow a.book a.total)
    (column_refusals a.total.0 a.columns)
    (sym c.check_total.ensures ∙ c.in_err-check_total.was)

pub check-requires : goal.check-requires
check-requires c =
    let a = c.args in
    (total_cleared a.flow a.book a.total (sym c.check_total.ensures ∙ c.in_ok-check_total.was)).1

pub returns : goal.returns
returns c =
    let a = c.args in
    c.check.ensures
    ∙ sym
    (second-decides (unsound_book a.book ∷ total_refusals a.flow a.book a.total) (column_refusals a.total.0 a.columns)
    (sym c.check_total.ensures ∙ c.in_ok-check_total.was))
