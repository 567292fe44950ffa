-- As for a short auction, once for each section: its words fit the list (`words-within`), and the front of the list is
-- exactly those words (`words-taken`). So `long_output` is called with the words that the rule names.
use mathlib.Core.Path.{sym, ◌∙◌, ap, ap₂}
use mathlib.Core.List.{List, [], ◌∷◌}
use Prim.Native.Nat.{ℕ}
use Rattle.market.specs.Answers.{answered}
use Rattle.text_numbers.proofs.PutLaws.{put_is}
use Rattle.sheet_form.specs.Words.{section_words}
use Rattle.sheet_rounds.specs.Rounds.{output_from}
use Rattle.sheet_output.proofs.SheetRun.{words-taken}
use Rattle.sheet_output.proofs.sheet.run_long.Goals as goal

pub returns : goal.returns
returns c =
    let a = c.args in
    let first = c.first_bids-first in
    let second = c.second_bids-second in
    let words = c.words_of-count in
    let later = c.words_of-later_count in
    let bids = words-taken first.result.now _ words.ensures.count words.ensures.words ∙ ap section_words first.ensures.section in
    let more = words-taken second.result.now _ later.ensures.count later.ensures.words ∙ ap section_words second.ensures.section in
    put_is (sym (ap₂ (λ (l m : List ℕ). output_from (answered a.book) a.listed.now (l ∷ m ∷ [])) bids more)) c.long_output.ensures
