use Rattle.sheet_reading.proofs.SaidLaws.{days-said}
use Rattle.sheet_reading.proofs.period_in.Goals as goal

pub returns : goal.returns
returns c =
    let first = c.word_at-first in
    let last = c.word_at-last in
    days-said c.args.bytes.now first.result last.result first.ensures.value first.ensures.used last.ensures.value
