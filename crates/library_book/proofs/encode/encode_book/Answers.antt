-- The two counts, the stage, the paths and the bidders, written one after another, are the book's words written at once
-- (book-laid). That the book fits its fields is collected from what the three callees ensure.
use mathlib.Core.Path.{◌≡◌, ◌∙◌, ap}
use mathlib.Core.List.{List}
use Prim.Native.Nat.{ℕ}
use native.Mathlib.Omega.{arith}
use lib.ListN.{length, length-set}
use Rattle.market.specs.Limits.{path_limit, bidder_limit}
use Rattle.text_numbers.specs.Put.{put_at}
use Rattle.library_book.specs.BookWords.{front_size, bidders_from, path_words, bidder_words, each}
use Rattle.library_book.proofs.WordLaws.{book-laid}
use borrow.Author.Rules.{rules}
use Rattle.library_book.proofs.encode.encode_book.Goals as goal

pub bounds-words-1 : goal.bounds-words-1
bounds-words-1 c = simp length-set (omega arith)

pub encode_stage-requires : goal.encode_stage-requires
encode_stage-requires c = simp length-set (omega arith)

pub write_all-requires : goal.write_all-requires
write_all-requires c =
    let kept = c.encode_stage.auto.words in
    omega (arith, simp length-set at kept)

pub write_all-requires-2 : goal.write_all-requires-2
write_all-requires-2 c =
    let kept = c.encode_stage.auto.words in
    omega (arith, simp length-set at kept, c.write_all.auto.words)

pub shape_of-words : goal.shape_of-words
shape_of-words c =
    let kept = c.encode_stage.auto.words in
    omega (arith, simp length-set at kept, c.write_all.auto.words, c.write_all-2.auto.words)

pub returns : goal.returns
returns c =
    let a = c.args in
    let b = a.book in
    let stage = c.encode_stage in
    let paths = c.write_all in
    let bidders = c.write_all-2 in
    let paths-count : length b.paths ≡ path_limit = search rules in
    let bidders-count : length b.bidders ≡ bidder_limit = search rules in
    record {
      words = bidders.ensures.words
          ∙ ap (λ (l : List ℕ). put_at l bidders_from (each bidder_words b.bidders))
          (paths.ensures.words ∙ ap (λ (l : List ℕ). put_at l front_size (each path_words b.paths)) stage.ensures.words)
          ∙ book-laid b paths-count bidders-count a.words.now (search rules);
      fits = record {
        paths = paths-count;
        bidders = bidders-count;
        each-path = paths.ensures.fits;
        each-bidder = bidders.ensures.fits;
        stage = stage.ensures.fits;
      };
    }
