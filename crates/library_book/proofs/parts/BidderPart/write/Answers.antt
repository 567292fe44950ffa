-- Six stores in a row are one write of the bidder's six words (six-stores).
use native.Mathlib.Omega.{arith}
use Rattle.register.proofs.WordLaws.{six-stores}
use Rattle.library_book.proofs.parts.BidderPart.write.Goals as goal

pub returns-clause-words : goal.returns-clause-words
returns-clause-words c =
    let a = c.args in
    let x = a.self in
    rw c.from.ensures (six-stores a.words.now a.at x.cash.0 x.applied.0 x.letter.0 x.hold.0 x.owed.0 x.step (omega arith))
