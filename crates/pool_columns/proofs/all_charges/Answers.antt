use native.Mathlib.Omega.{arith}
use Rattle.pool_columns.proofs.ColumnLaws.{totals-within}
use Rattle.pool_columns.proofs.all_charges.Goals as goal

pub overflow_add-result : goal.overflow_add-result
overflow_add-result c =
    let cols = c.args.columns in
    let most = totals-within cols c.requires in
    omega (arith, most.provincial, most.export)
