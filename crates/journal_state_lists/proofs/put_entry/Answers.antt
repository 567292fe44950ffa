-- One row is the whole line, so put_last_row's contract is the result; the only need that is not automatic is that the
-- row fits the buffer (entry-fits).
use native.Mathlib.Omega.{arith}
use Rattle.journal_state_book.proofs.StateLaws.{entry-fits}
use Rattle.journal_state_lists.proofs.put_entry.Goals as goal

pub put_last_row-requires : goal.put_last_row-requires
put_last_row-requires c =
    omega (
      arith,
      entry-fits c.args.i
          c.args.entry,
      c.requires,
    )
