use native.Mathlib.Omega.{arith}
use Rattle.text_numbers.proofs.ReadLaws.{value-small, digit-high}
use Rattle.text_numbers.proofs.value_of.Goals as goal

pub overflow_mul-value : goal.overflow_mul-value
overflow_mul-value c =
    let to = c.loop-c in
    omega (arith, value-small c.args.digits.now to.c-index to.value to.invariant c.requires.digits_are c.loop-c-test.true c.requires.few)

pub overflow_add-value : goal.overflow_add-value
overflow_add-value c =
    let to = c.loop-c in
    let ds = c.args.digits.now in
    omega (
      arith,
      value-small ds to.c-index to.value to.invariant c.requires.digits_are c.loop-c-test.true c.requires.few,
      digit-high ds to.c-index to.value to.invariant c.requires.digits_are c.loop-c-test.true,
    )
