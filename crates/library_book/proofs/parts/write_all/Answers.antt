use native.Mathlib.Omega.{arith}
use mathlib.Core.Path.{◌≡◌, sym, ◌∙◌, ap}
use mathlib.Core.Bool.{true}
use mathlib.Core.List.{List}
use Prim.Native.Nat.{ℕ, ◌+◌, ◌*◌, ◌≤◌}
use lib.ListN.{length, get_or}
use Rattle.std.proofs.Math.Nat.{mul-le-mul_right}
use Rattle.market.proofs.Tests.{pass}
use Rattle.text_numbers.specs.Put.{put_at}
use Rattle.library_book.proofs.WordLaws.{laid_to, lay-next}
use Rattle.library_book.proofs.parts.write_all.Goals as goal

pub loop-part-preserved : goal.loop-part-preserved
loop-part-preserved g c =
    let p = g.P.Part in
    let a = c.args in
    let to = c.loop-part in
    let part = c.part-item.result in
    let below = c.loop-part-test.true in
    let room : a.from + (to.part-index + 1) * p.WORDS ≤ length a.words.now =
    omega (arith, mul-le-mul_right {m = to.part-index + 1} {n = length a.parts.now} p.WORDS (omega arith)) in
    let fits : p.fits (get_or a.parts.now to.part-index part) ≡ true = ap p.fits (sym c.part-item.is) ∙ c.write.ensures.fits in
    let place : to.at ≡ a.from + to.part-index * p.WORDS = to.invariant.place in
    record {
      within = omega arith;
      place = omega (arith, c.WORDS-at.ensures);
      long = c.write.auto.words ∙ to.invariant.long;
      laid = c.write.ensures.words
          ∙ ap (λ (l : List ℕ). put_at l to.at (p.words_of part)) to.invariant.laid
          ∙ ap (λ (n : ℕ). put_at (laid_to p.words_of p.WORDS g.met.P.Part.sized a.words.now a.from a.parts.now to.part-index) n (p.words_of part)) place
          ∙ ap (λ x. put_at (laid_to p.words_of p.WORDS g.met.P.Part.sized a.words.now a.from a.parts.now to.part-index) (a.from + to.part-index * p.WORDS) (p.words_of x)) c.part-item.is
          ∙ lay-next p.words_of p.WORDS g.met.P.Part.sized a.words.now a.from a.parts.now to.part-index part below (omega arith);
      passed = pass p.fits a.parts.now to.part-index part below to.invariant.passed fits;
    }
