-- The code divides the length by the words of a path, the rule multiplies the count by them; omega shows that the two
-- tests agree. Too short is the first row; otherwise the register's rows decide, as the callee ensures.
use Prim.Native.Nat.{◌≤◌, ◌<◌}
use native.Mathlib.Omega.{arith}
use lib.ListN.{length}
use borrow.Author.Tests.{le-leb, lt-leb}
use Rattle.call_open.specs.OpenedPaths.{words_needed}
use Rattle.call_open.proofs.check_lent.Goals as goal

pub returns-then-quantities-count : goal.returns-then-quantities-count
returns-then-quantities-count c =
    let a = c.args in
    let short : length a.quantities.now < words_needed a.book = omega arith in
    rw (lt-leb _ _ short)

pub returns : goal.returns
returns c =
    let a = c.args in
    let long : words_needed a.book ≤ length a.quantities.now = omega arith in
    rw (le-leb _ _ long) c.check.ensures
