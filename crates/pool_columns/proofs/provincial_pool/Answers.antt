-- The total is within the pool's limit and the column within its own, so their product fits a word (product-within);
-- all charges are above 0, so the division is defined. The two callees ensure the rule's numbers.
use native.Mathlib.Omega.{arith}
use Rattle.pool_sharing.proofs.Loops.{product-within}
use Rattle.pool_columns.proofs.ColumnLaws.{totals-within}
use Rattle.pool_columns.proofs.provincial_pool.Goals as goal

pub overflow_mul-result : goal.overflow_mul-result
overflow_mul-result c =
    let s = c.before.before.before in
    let most = totals-within s.args.columns s.requires.columns_value in
    let column = c.column_total in
    record { fits = omega (arith, product-within s.args.total.0 column.result s.requires.total_le_pool_limit (omega (arith, column.ensures, most.provincial))) }

pub returns : goal.returns
returns c = rw (c.column_total.ensures, c.all_charges.ensures)
