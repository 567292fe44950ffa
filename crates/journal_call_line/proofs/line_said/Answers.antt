-- A line that begins with none of the words is read by the forms after these, those of plain_line.
use borrow.Author.Rules.{rules}
use Rattle.journal_call_line.specs.CallLine.{line_read}
use Rattle.journal_call_line.proofs.line_said.Goals as goal

pub returns : goal.returns
unfolding line_read
returns c =
    let read = c.plain_line.ensures c.args.words.now c.args.prices.now in
    search rules
