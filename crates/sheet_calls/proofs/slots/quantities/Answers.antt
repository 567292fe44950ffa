use lib.ListN.{get_or}
use borrow.Author.Rules.{rules}
use mathlib.Core.Path.{refl}
use Rattle.sheet_form.specs.Slots.{no_path_line}
use Rattle.sheet_calls.proofs.QuantityLaws.{none-put, one-put, all-put}
use Rattle.sheet_calls.proofs.slots.quantities.Goals as goal

pub loop-i-init : goal.loop-i-init
loop-i-init c = none-put c.args.lines

pub loop-i-preserved : goal.loop-i-preserved
loop-i-preserved c =
    let lines = c.args.lines in
    let at = c.loop-i in
    one-put lines at.words at.i at.invariant (search rules) (get_or lines at.i no_path_line) no_path_line refl (search rules)

pub returns : goal.returns
returns c =
    let lines = c.args.lines in
    let at = c.loop-i in
    all-put lines at.words at.i at.invariant (search rules) (search rules)
