-- The invariant: the words of the parts so far are written from `from` on (laid_to), the length is unchanged, and these parts
-- fit their fields. Each turn writes one more part (lay-next), which fits by its own contract (pass).
use Rattle.market.proofs.Tests.{Passed}
use mathlib.Core.Path.{◌≡◌}
use Prim.Native.Nat.{◌+◌, ◌*◌, ◌≤◌}
use lib.ListN.{length}
use Rattle.library_book.proofs.WordLaws.{laid_to}
use Rattle.library_book.proofs.parts.write_all.Given as goal

abbrev pub invariant-loop-part : goal.invariant-loop-part
invariant-loop-part g l = record {
  within : l.part-index ≤ length l.parts;
  place : l.at ≡ l.from + l.part-index * g.P.Part.WORDS;
  long : length l.words ≡ length l.initial.words;
  laid : l.words ≡ laid_to g.P.Part.words_of g.P.Part.WORDS g.met.P.Part.sized l.initial.words l.from l.parts l.part-index;
  passed : Passed g.P.Part.fits l.parts l.part-index;
}
