-- Three cases by the list's length: it ends before the column begins (column-none), inside the column (column-short),
-- or at its end or later (column-whole).
use Rattle.journal_step.proofs.ColumnLaws.{column-none, column-short, column-whole}
use Rattle.journal_step.proofs.column.Goals as goal

pub returns-then-list-from : goal.returns-then-list-from
returns-then-list-from c =
    let a = c.args in
    column-none a.list.now a.k c.if-list-from.true

pub returns-then-list-from-lt-BIDDERS : goal.returns-then-list-from-lt-BIDDERS
returns-then-list-from-lt-BIDDERS c =
    let a = c.args in
    column-short a.list.now a.k c.if-list-from-lt-BIDDERS.true

pub returns : goal.returns
returns c =
    let a = c.args in
    column-whole a.list.now a.k
