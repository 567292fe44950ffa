use native.Mathlib.Omega.{arith}
use Rattle.text_numbers.proofs.DecimalLaws.{decimal-some}
use lib.ListN.{length-set}
use Rattle.text_numbers.proofs.PutLaws.{put-nothing, put_same, put-within, put-above, put_one, put_all}
use Rattle.text_numbers.proofs.put_number.Goals as goal

pub overflow_add-end : goal.overflow_add-end
overflow_add-end c = omega (arith, c.digits_of.ensures)

pub overflow_sub-i : goal.overflow_sub-i
overflow_sub-i c =
    let a = c.args in
    omega (arith, c.digits_of.ensures, decimal-some a.n)

pub loop-left-init : goal.loop-left-init
loop-left-init c =
    let a = c.args in
    put-nothing a.out.now a.at a.n (omega arith) (omega arith) c.digits_of.result c.digits_of.ensures

pub bounds-out-i : goal.bounds-out-i
bounds-out-i c =
    let a = c.args in
    let to = c.loop-left in
    omega (
      arith,
      put-within a.out.now a.at a.n (omega arith) (omega arith) to.left to.i to.out to.invariant,
      put_same a.out.now a.at a.n (omega arith) (omega arith) to.left
          to.i to.out to.invariant,
    )

pub overflow_sub-i-in-loop-left : goal.overflow_sub-i-in-loop-left
overflow_sub-i-in-loop-left c =
    let a = c.args in
    let to = c.loop-left in
    omega (arith, put-above a.out.now a.at a.n (omega arith) (omega arith) to.left to.i to.out to.invariant (omega arith))

pub loop-left-preserved : goal.loop-left-preserved
loop-left-preserved c =
    let a = c.args in
    let to = c.loop-left in
    put_one a.out.now a.at a.n (omega arith) (omega arith) to.left to.i to.out to.invariant (omega arith)

pub bounds-out-i-2 : goal.bounds-out-i-2
bounds-out-i-2 c =
    let a = c.args in
    let to = c.loop-left in
    put-within a.out.now a.at a.n (omega arith) (omega arith) to.left to.i to.out to.invariant

pub shape_of-out : goal.shape_of-out
shape_of-out c =
    let a = c.args in
    let to = c.loop-left in
    simp length-set (put_same a.out.now a.at a.n (omega arith) (omega arith) to.left to.i to.out to.invariant)

pub returns : goal.returns
returns c =
    let a = c.args in
    let to = c.loop-left in
    record {
      place = omega (arith, c.digits_of.ensures);
      bytes = put_all a.out.now a.at a.n (omega arith) (omega arith) to.left to.i to.out to.invariant (omega arith);
    }
