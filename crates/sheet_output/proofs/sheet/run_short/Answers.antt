-- The section is a part of the sheet, so its words fit the list (`part-within`, `words-within`), and the front of the
-- list is exactly those words (`words-taken`). So `short_output` is called with the words that the rule names.
use mathlib.Core.Path.{sym, ◌∙◌, ap}
use mathlib.Core.List.{List, [], ◌∷◌}
use Prim.Native.Nat.{ℕ}
use Rattle.market.specs.Answers.{answered}
use Rattle.text_numbers.proofs.PutLaws.{put_is}
use Rattle.sheet_form.specs.Words.{section_words}
use Rattle.sheet_rounds.specs.Rounds.{output_from}
use Rattle.sheet_output.proofs.SheetRun.{words-taken}
use Rattle.sheet_output.proofs.sheet.run_short.Goals as goal

pub returns : goal.returns
returns c =
    let a = c.args in
    let section = c.first_bids-section in
    let words = c.words_of-count in
    let front = words-taken section.result.now _ words.ensures.count words.ensures.words in
    let bids = sym (front ∙ ap section_words section.ensures.section) in
    put_is (ap (λ (l : List ℕ). output_from (answered a.book) a.listed.now (l ∷ [])) bids) c.short_output.ensures
