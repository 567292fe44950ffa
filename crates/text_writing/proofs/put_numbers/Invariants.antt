-- The invariant: the text of the numbers before this one is written, with the text of this one and those after it still to
-- come. Each turn writes one number and a space (`more_numbers`); the one left at the end is the last (`last-number`).
use lib.ListN.{drop}
use Rattle.text_fields.specs.Fields.{numbers_text}
use Rattle.text_writing.proofs.PutLaws.{WrittenTo}
use Rattle.text_writing.proofs.put_numbers.Given as goal

abbrev pub invariant-loop-n : goal.invariant-loop-n
invariant-loop-n l = WrittenTo l.initial.out l.at (numbers_text l.last l.numbers) (numbers_text l.last (drop l.n-index l.numbers)) l.place l.out
