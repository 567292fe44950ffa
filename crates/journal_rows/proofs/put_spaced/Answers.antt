use mathlib.Core.List.{◌∷◌}
use Prim.Native.Nat.{◌+◌}
use lib.ListN.{get_or, drop}
use Rattle.text_numbers.specs.Decimal.{decimal}
use Rattle.text_fields.specs.Fields.{space}
use Rattle.journal_rows.specs.Rows.{spaced_numbers}
use Rattle.text_writing.proofs.PutLaws.{written_on, written-done}
use Rattle.journal_rows.proofs.RowLaws.{spaced-next, spaced-none}
use Rattle.journal_rows.proofs.put_spaced.Goals as goal

pub loop-n-preserved : goal.loop-n-preserved
loop-n-preserved c =
    let ns = c.args.numbers.now in
    let at = c.loop-n in
    written_on at.invariant (space ∷ decimal (get_or ns at.n-index 0)) (spaced_numbers (drop (at.n-index + 1) ns))
    (spaced-next ns at.n-index c.loop-n-test.true) c.put_behind_space-place.ensures

pub returns : goal.returns
returns c =
    let at = c.loop-n in
    written-done at.invariant (spaced-none c.args.numbers.now at.n-index c.loop-n-test.false)
