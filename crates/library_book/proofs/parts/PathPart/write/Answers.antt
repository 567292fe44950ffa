-- Four stores in a row are one write of the path's four words (sets-eq).
use mathlib.Core.List.{◌∷◌, []}
use native.Mathlib.Numerals.{add-one, add-two, add-three}
use native.Mathlib.Omega.{arith}
use lib.Seq.{sets-eq}
use Rattle.library_book.specs.BookWords.{direction_number}
use Rattle.library_book.proofs.parts.PathPart.write.Goals as goal

pub returns-clause-words : goal.returns-clause-words
returns-clause-words c =
    let a = c.args in
    let p = a.self in
    rw (c.direction_number.ensures, c.from.ensures, c.from-2.ensures, c.from-3.ensures, add-one a.at, add-two a.at, add-three a.at)
    (sets-eq (direction_number p.direction ∷ p.zone ∷ p.offer.0 ∷ p.sold.0 ∷ []) a.words.now a.at (omega arith))
