use mathlib.Core.Path.{◌∙◌, ap}
use native.Mathlib.Omega.{arith}
use Prim.Native.Nat.{◌-◌}
use lib.ListN.{length, drop, length-drop}
use lib.Seq.{take_all}
use Rattle.text_numbers.specs.Decimal.{digits_in}
use Rattle.text_numbers.proofs.ReadLaws.{digits-taken}
use Rattle.text_numbers.proofs.digits_at.Goals as goal

pub returns : goal.returns
returns c =
    let text = c.args.text.now in
    let at = c.args.at in
    let all = take_all (length text - at) (drop at text) (omega (arith, length-drop at text)) in
    digits-taken _ c.digit_count.result c.digit_count.ensures ∙ ap digits_in all
