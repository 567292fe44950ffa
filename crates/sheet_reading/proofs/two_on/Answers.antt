use mathlib.Core.Path.{sym}
use lib.Seq.{drop-drop}
use Rattle.sheet_reading.proofs.SaidLaws.{end_on}
use borrow.Author.Rules.{rules}
use Rattle.sheet_reading.proofs.two_on.Goals as goal

pub returns-then-bytes-at-lt2 : goal.returns-then-bytes-at-lt2
returns-then-bytes-at-lt2 c = record {
  place = end_on c.args.bytes.now c.args.at c.if-bytes-at-lt2.true;
  fits = search rules;
}

pub returns : goal.returns
returns c = record {
  place = sym (drop-drop 2 c.args.at c.args.bytes.now);
  fits = search rules;
}
