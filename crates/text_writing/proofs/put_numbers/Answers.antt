use native.Mathlib.Omega.{arith}
use mathlib.Core.Path.{refl}
use mathlib.Core.List.{[]}
use Prim.Native.Nat.{◌+◌}
use lib.ListN.{get_or, drop}
use Rattle.text_fields.specs.Fields.{space, field_text, numbers_text}
use Rattle.text_writing.proofs.PutLaws.{written_on, written-done}
use Rattle.text_writing.proofs.PieceLaws.{more_numbers, last-number}
use Rattle.text_writing.proofs.put_numbers.Goals as goal

pub loop-n-preserved : goal.loop-n-preserved
loop-n-preserved c =
    let a = c.args in
    let to = c.loop-n in
    let part = c.in-Some in
    written_on to.invariant (field_text (get_or part.front.now to.n-index 0) space) (numbers_text a.last (drop (to.n-index + 1) a.numbers.now))
    (more_numbers a.last part.end.now a.numbers.now part.front.now part.ensures.cases.0 to.n-index c.loop-n-test.true) c.put_field-place.ensures

pub returns : goal.returns
returns c =
    let a = c.args in
    let to = c.loop-n in
    let part = c.in-Some in
    written-done
    (written_on to.invariant (field_text part.end.now a.last) []
    (last-number a.last part.end.now a.numbers.now part.front.now part.ensures.cases.0 to.n-index (omega arith)) c.put_field.ensures)
    refl
