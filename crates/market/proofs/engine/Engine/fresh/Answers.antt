-- By cases on the verdict: a refusal goes with the book that has no path (refuses), and else the answer with the fresh
-- book (takes).
use lib.ListN.{replicate}
use Rattle.market.specs.declared.book.Path.{Path}
use Rattle.market.specs.Limits.{path_limit}
use mathlib.Core.List.{List}
use mathlib.Core.Path.{◌∙◌, ap}
use Rattle.market.proofs.Tables.{refuses, takes}
use Rattle.market.specs.Answers.{refused, answered}
use Rattle.market.specs.Fresh.{fresh, fresh_refusals, no_book, fresh_book, book_of}
use Rattle.market.specs.declared.book.Book.{Book}
use Rattle.market.proofs.engine.Engine.fresh.Goals as goal

pub returns-in-Err : goal.returns-in-Err
unfolding fresh no_book
returns-in-Err c =
    let a = c.args in
    ap (λ (b : Book). refused b c.in-Err.refusal)
    (c.book_of.ensures ∙ ap (λ (p : Path). book_of (replicate path_limit p) 0) c.no_path-none.ensures)
    ∙ refuses no_book (fresh_refusals a.routes a.count) (answered (fresh_book a.routes a.count)) c.check.result c.check.ensures c.in-Err.is

pub returns : goal.returns
unfolding fresh fresh_book
returns c =
    let a = c.args in
    ap answered (c.book_of-2.ensures ∙ ap (λ (l : List Path). book_of l a.count) c.fresh_paths.ensures)
    ∙ takes no_book (fresh_refusals a.routes a.count) (answered (fresh_book a.routes a.count)) c.check.result c.check.ensures c.in_default.is
