-- Each call gives the part at its place and leaves the closure as it was, so the parts are those that are gathered
-- (made-gathered).
use borrow.Author.Rules.{rules}
use Prim.Native.Nat.{ℕ, ◌+◌, ◌*◌}
use Rattle.library_book.proofs.WordLaws.{made-gathered}
use Rattle.library_book.proofs.parts.read_all.Goals as goal

pub returns : goal.returns
returns g c =
    let p = g.P.Part in
    let a = c.args in
    made-gathered _ _ (λ (i : ℕ). p.read_at a.words.now (a.from + i * p.WORDS)) (λ i x q k. (search rules, search rules)) _ _ c.from_fn.ensures.items
