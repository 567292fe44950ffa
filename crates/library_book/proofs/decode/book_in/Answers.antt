-- The result is the rule's record field by field: paths, bidders and stage by the contracts of their functions, the two
-- counts are words 0 and 1, and the account is the one given.
use lib.ListN.{get_or}
use mir.Facts.{to_z-of_z}
use Rattle.market.specs.Books.{balance}
use Rattle.library_book.specs.BookWords.{book_in}
use Rattle.library_book.proofs.decode.book_in.Goals as goal

pub returns : goal.returns
unfolding book_in
returns c =
    let a = c.args in
    λ j. record {
      paths = c.read_all-paths.ensures j;
      path_count = get_or a.words.now 0 0;
      bidders = c.read_all-bidders.ensures j;
      account = balance (to_z-of_z c.ranges.account j);
      entries = get_or a.words.now 1 0;
      stage = c.stage_at-stage.ensures j;
    }
