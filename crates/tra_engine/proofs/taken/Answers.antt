use lib.ListN.{length}
use borrow.Author.Tests.{lt-ltb, le-ltb}
use Rattle.journal_step.specs.LineStep.{line_bytes}
use Rattle.tra_engine.proofs.taken.Goals as goal

pub returns-then-line-gt-LINE_BYTES : goal.returns-then-line-gt-LINE_BYTES
returns-then-line-gt-LINE_BYTES c = rw (lt-ltb line_bytes (length c.args.line.now) c.if-line-gt-LINE_BYTES.true)

pub returns : goal.returns
returns c = rw (le-ltb line_bytes (length c.args.line.now) c.if-line-gt-LINE_BYTES.false)
