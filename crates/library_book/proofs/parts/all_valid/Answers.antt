use native.Mathlib.Omega.{arith}
use Prim.Native.Nat.{◌+◌, ◌*◌, ◌≤◌}
use lib.ListN.{length}
use Rattle.std.proofs.Math.Nat.{mul-le-mul_right}
use Rattle.library_book.proofs.ValidLaws.{stand-next}
use Rattle.library_book.proofs.parts.all_valid.Goals as goal

pub loop-i-preserved : goal.loop-i-preserved
loop-i-preserved g c =
    let p = g.P.Part in
    let a = c.args in
    let to = c.loop-i in
    let here = c.valid-here in
    let room : a.from + (to.i + 1) * p.WORDS ≤ length a.words.now = omega (arith, mul-le-mul_right {m = to.i + 1} {n = a.count} p.WORDS (omega arith)) in
    let next =
    stand-next p.words_of p.WORDS g.met.P.Part.sized a.words.now a.from (λ i. p.read_at a.words.now (a.from + i * p.WORDS)) to.i to.valid here.result
    room to.invariant.1 (rw c.WORDS.ensures at here.ensures) in
    (omega arith, next)
