use native.Mathlib.Omega.{arith}
use lib.ListN.{drop, length-drop}
use Rattle.sheet_bids.proofs.WordsPut.{none-put, all-counted, all-put, one-put, near-end}
use Rattle.sheet_bids.proofs.words_of.Goals as goal

pub loop-at-init : goal.loop-at-init
loop-at-init c =
    let a = c.args in
    none-put a.section.now a.out.now c.count_line-count.result.used c.count_line-count.ensures.used c.count_line-count.ensures.fits

pub offset_bounds-out-n : goal.offset_bounds-out-n
offset_bounds-out-n c = omega (arith, c.loop-at.invariant.few, c.loop-at-test.true, c.requires.section_len_bound)

pub bounds-out-n : goal.bounds-out-n
bounds-out-n c =
    let inv = c.loop-at.invariant in
    omega (arith, inv.few, inv.same, c.loop-at-test.true, c.requires.section_in_bounds)

pub overflow_add-at : goal.overflow_add-at
overflow_add-at c =
    omega (
      arith,
      near-end (drop c.loop-at.at c.args.section.now)
          c.number_at-number.result c.number_at-number.ensures,
      length-drop c.loop-at.at
          c.args.section.now,
      c.requires.section_len_bound,
    )

pub overflow_add-at-in-loop-at : goal.overflow_add-at-in-loop-at
overflow_add-at-in-loop-at c =
    omega (
      arith,
      near-end (drop c.loop-at.at c.args.section.now)
          c.number_at-number.result c.number_at-number.ensures,
      length-drop c.loop-at.at
          c.args.section.now,
      c.loop-at-test.true,
      c.requires.section_len_bound,
    )

pub loop-at-preserved : goal.loop-at-preserved
loop-at-preserved c =
    let start = c.before.before.before.before.before.before.before.before in
    let a = start.args in
    let to = c.loop-at in
    let number = c.number_at-number in
    let word = c.word_of in
    one-put a.section.now a.out.now to.out to.n to.at to.invariant number.result word.result number.ensures word.ensures c.loop-at-test.true
    start.requires.section_in_bounds

pub shape_of-out : goal.shape_of-out
shape_of-out c = c.loop-at.invariant.same

pub returns : goal.returns
returns c =
    let a = c.args in
    let to = c.loop-at in record {
      count = all-counted a.section.now a.out.now to.out to.n to.at to.invariant c.loop-at-test.false;
      words = all-put a.section.now a.out.now to.out to.n to.at to.invariant c.loop-at-test.false;
    }
