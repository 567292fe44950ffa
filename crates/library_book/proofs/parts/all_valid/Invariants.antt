-- The invariant: `valid` says whether the words of the first `i` parts are those of the parts that they are read as
-- (StandTo). Each turn adds the test of one more part (stand-next).
use mathlib.Core.Path.{◌≡◌}
use Prim.Native.Nat.{◌+◌, ◌*◌, ◌≤◌}
use Rattle.library_book.proofs.ValidLaws.{StandTo}
use Rattle.library_book.proofs.parts.all_valid.Given as goal

abbrev pub invariant-loop-i : goal.invariant-loop-i
invariant-loop-i g l =
    let p = g.P.Part in
    (l.i ≤ l.count) × (l.valid ≡ StandTo p.words_of p.WORDS (g.met.P.Part.sized) l.words l.from (λ i. p.read_at l.words (l.from + i * p.WORDS)) l.i)
