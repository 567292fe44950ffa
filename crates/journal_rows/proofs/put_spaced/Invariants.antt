-- The invariant: what is written so far, followed by this number and those after it with a space before each, is the whole
-- text (WrittenTo). Each turn moves a number from the rest to the written part (spaced-next); at the end no number is
-- left (spaced-none).
use lib.ListN.{drop}
use Rattle.journal_rows.specs.Rows.{spaced_numbers}
use Rattle.text_writing.proofs.PutLaws.{WrittenTo}
use Rattle.journal_rows.proofs.put_spaced.Given as goal

abbrev pub invariant-loop-n : goal.invariant-loop-n
invariant-loop-n l = WrittenTo l.initial.out l.at (spaced_numbers l.numbers) (spaced_numbers (drop l.n-index l.numbers)) l.place l.out
