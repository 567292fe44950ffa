-- The invariant: what is written so far, followed by the rows of the numbers from `from` on, is the whole text
-- (WrittenTo), and the list still has the numbers of the `count - k` rows to come. Each turn moves one row over
-- (rows_next) and uses up `size` numbers (one-less).
use Prim.Native.Nat.{◌+◌, ◌*◌, ◌-◌, ◌≤◌}
use lib.ListN.{length, drop}
use Rattle.journal_rows.specs.Rows.{rows}
use Rattle.text_writing.proofs.PutLaws.{WrittenTo}
use Rattle.journal_rows.proofs.put_rows.Given as goal

abbrev pub invariant-loop-k : goal.invariant-loop-k
invariant-loop-k l =
    (l.k ≤ l.count) × ((l.from + (l.count - l.k) * l.size ≤ length l.list)
    × WrittenTo l.initial.out l.at (rows l.mark l.size l.count l.list) (rows l.mark l.size (l.count - l.k) (drop l.from l.list)) l.place l.out)
