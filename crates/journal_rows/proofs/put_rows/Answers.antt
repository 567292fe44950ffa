use borrow.Author.Rules.{rules}
use native.Mathlib.Omega.{arith}
use mathlib.Core.Path.{◌≡◌, sym, ap, subst}
use Prim.Native.Nat.{ℕ, ◌+◌, ◌*◌, ◌-◌}
use lib.ListN.{take, drop}
use Rattle.journal_rows.specs.Rows.{row, rows}
use Rattle.text_writing.proofs.PutLaws.{WrittenTo, written_none, written_same, written-fits, written_on, written-done}
use Rattle.journal_rows.proofs.RowLaws.{rows_next, rows_none, one_less}
use Rattle.journal_rows.proofs.put_rows.Goals as goal

pub loop-k-init : goal.loop-k-init
loop-k-init c =
    let start = c in
    let a = start.args in
    let mark = a.mark.now in
    let list = a.list.now in
    let all : a.count ≡ a.count - 0 = omega arith in
    let s = written_none a.out.now a.at (rows mark a.size a.count list) start.requires.list_in_bounds in
    let whole : (a.count - 0) * a.size ≡ a.count * a.size = ap (λ (n : ℕ). n * a.size) (sym all) in (
      search rules,
      (
        omega (arith, whole, start.requires.size_in_bounds),
        subst (λ (n : ℕ). WrittenTo a.out.now a.at (rows mark a.size a.count list) (rows mark a.size n list) a.at a.out.now) all s,
      ),
    )

pub overflow_add-to : goal.overflow_add-to
overflow_add-to c =
    let a = c.args in
    omega (arith, one_less a.size a.count c.loop-k.k c.loop-k-test.true, c.loop-k.invariant.1.0)

pub offset_bounds-list-from : goal.offset_bounds-list-from
offset_bounds-list-from c =
    let a = c.args in
    omega (arith, one_less a.size a.count c.loop-k.k c.loop-k-test.true, c.loop-k.invariant.1.0, c.well_formed)

pub slice_bounds-put_row-end : goal.slice_bounds-put_row-end
slice_bounds-put_row-end c =
    let a = c.args in
    omega (arith, one_less a.size a.count c.loop-k.k c.loop-k-test.true, c.loop-k.invariant.1.0)

pub put_row-place-requires : goal.put_row-place-requires
put_row-place-requires c =
    let a = c.args in
    let list = a.list.now in
    let at = c.loop-k in
    let e = rows_next a.mark.now a.size a.count list at.k at.from c.loop-k-test.true in
    written-fits at.invariant.1.1 (row a.mark.now (take (at.from + a.size - at.from) (drop at.from list)))
    (rows a.mark.now a.size (a.count - (at.k + 1)) (drop (at.from + a.size) list)) e

pub loop-k-preserved : goal.loop-k-preserved
loop-k-preserved c =
    let a = c.args in
    let list = a.list.now in
    let at = c.loop-k in
    let below = c.loop-k-test.true in
    let put = c.put_row-place in
    let e = rows_next a.mark.now a.size a.count list at.k at.from below in (
      search rules,
      (
        omega (arith, one_less a.size a.count at.k below, at.invariant.1.0),
        written_on at.invariant.1.1 (row a.mark.now (take (at.from + a.size - at.from) (drop at.from list)))
            (rows a.mark.now a.size (a.count - (at.k + 1)) (drop (at.from + a.size) list)) e put.ensures,
      ),
    )

pub shape_of-out : goal.shape_of-out
shape_of-out c = written_same c.loop-k.invariant.1.1

pub returns : goal.returns
returns c =
    let a = c.args in
    let at = c.loop-k in
    written-done at.invariant.1.1 (rows_none a.mark.now a.size a.count a.list.now at.k at.from c.loop-k-test.false)
