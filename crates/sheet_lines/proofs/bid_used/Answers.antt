-- No number has more than 13 digits (`number_small`), so the count of the numbers to read does not wrap.
use native.Mathlib.Omega.{arith}
use Prim.Native.Nat.{◌+◌}
use lib.ListN.{drop}
use Rattle.text_fields.proofs.ReadLaws.{number_small}
use Rattle.sheet_lines.proofs.bid_used.Goals as goal

pub overflow_mul-pairs : goal.overflow_mul-pairs
overflow_mul-pairs c =
    let a = c.args in
    let pairs = c.number_at-pairs in
    omega (arith, number_small (drop (a.at + c.numbers_used-head.result) a.bytes.now) pairs.result pairs.ensures)

pub overflow_add-pairs : goal.overflow_add-pairs
overflow_add-pairs c =
    let a = c.args in
    let pairs = c.number_at-pairs in
    omega (arith, number_small (drop (a.at + c.numbers_used-head.result) a.bytes.now) pairs.result pairs.ensures)
