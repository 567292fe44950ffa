-- Each part of a book has as many words as rule 16.3 says.
use Rattle.std.specs.Prelude.{◌≡◌, refl, length}
use Rattle.market.specs.declared.book.Bidder.{Bidder}
use Rattle.market.specs.declared.book.Path.{Path}
use Rattle.library_book.specs.BookWords.{path_size, bidder_size, path_words, bidder_words}

pub path_sized : (p : Path) → length (path_words p) ≡ path_size
path_sized p = refl

pub bidder_sized : (x : Bidder) → length (bidder_words x) ≡ bidder_size
bidder_sized x = refl
