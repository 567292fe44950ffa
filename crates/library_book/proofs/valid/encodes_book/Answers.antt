use borrow.Author.Rules.{rules}
use mathlib.Core.Path.{◌∙◌, ap₂}
use mathlib.Core.Bool.{◌&&◌}
use Rattle.library_book.proofs.ValidLaws.{book-same}
use Rattle.library_book.proofs.valid.encodes_book.Goals as goal

pub returns : goal.returns
returns c =
    let a = c.args in
    ap₂ ◌&&◌ (ap₂ ◌&&◌ c.stage_valid-stage.ensures c.all_valid-paths.ensures) c.all_valid-bidders.ensures
    ∙ book-same a.words.now (search rules)
