-- By cases on the mark: the word is `admitted` (`mark-admitted`) or `over` (`mark-over`). In both cases one call writes
-- the whole text.
use native.Mathlib.Omega.{arith}
use mathlib.Core.Path.{ap}
use lib.ListN.{length}
use Rattle.text_numbers.proofs.PutLaws.{put_is}
use Rattle.award_sheet_round.proofs.LineLaws.{mark-admitted, mark-over}
use Rattle.award_sheet_round.proofs.bid_lines.put_mark.Goals as goal

pub put_word-requires : goal.put_word-requires
put_word-requires c =
    omega (arith, c.requires, ap length (mark-admitted _ c.if-mark.true))

pub returns-then-mark : goal.returns-then-mark
returns-then-mark c =
    put_is (mark-admitted _ c.if-mark.true) c.put_word.ensures

pub put_word-requires-2 : goal.put_word-requires-2
put_word-requires-2 c =
    omega (arith, c.requires, ap length (mark-over _ c.if-mark.false))

pub returns : goal.returns
returns c =
    put_is (mark-over _ c.if-mark.false) c.put_word-2.ensures
