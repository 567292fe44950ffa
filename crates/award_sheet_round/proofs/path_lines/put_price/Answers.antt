-- By cases on the price: for 0 the field is the dash (`price-none`), otherwise the number itself (`price-some`). In
-- both cases one call writes the whole text.
use native.Mathlib.Omega.{arith}
use mathlib.Core.Path.{ap}
use lib.ListN.{length}
use Rattle.text_numbers.proofs.PutLaws.{put_is}
use Rattle.award_sheet_round.proofs.LineLaws.{price-none, price-some}
use Rattle.award_sheet_round.proofs.path_lines.put_price.Goals as goal

pub put_word-requires : goal.put_word-requires
put_word-requires c =
    omega (arith, c.requires, ap length (price-none _ c.if-price-eq0.true))

pub returns-then-price-eq0 : goal.returns-then-price-eq0
returns-then-price-eq0 c =
    put_is (price-none _ c.if-price-eq0.true) c.put_word.ensures

pub put_field-requires : goal.put_field-requires
put_field-requires c =
    omega (arith, c.requires, ap length (price-some _ c.if-price-eq0.false))

pub returns : goal.returns
returns c =
    put_is (price-some _ c.if-price-eq0.false) c.put_field.ensures
