-- By cases on the verdict: a refusal is the rule's and leaves the words (refuses, words-stay); none gives its answer, with
-- the ended entries removed (takes, words-change). Where no row holds, the words have room for the counted entries, which
-- `remove` requires (known).
use mathlib.Core.Path.{sym, ◌∙◌, ap}
use Rattle.market.specs.Answers.{answered}
use Rattle.market.specs.Books.{with_entries}
use Rattle.call_rules.proofs.Decides.{refuses, words-stay, takes, words-change, known}
use Rattle.call_retire.specs.Retire.{retire}
use Rattle.call_retire.proofs.retire.Goals as goal

pub returns-in-Err : goal.returns-in-Err
returns-in-Err c =
    let a = c.args in
    let is = c.check.ensures in record {
      outcome = refuses (retire a.day) a.book a.words.now _ is c.in-Err.is;
      words = words-stay (retire a.day) a.book a.words.now _ is c.in-Err.is;
    }

pub remove-left-requires : goal.remove-left-requires
unfolding retire
remove-left-requires c =
    let a = c.args in
    (known (retire a.day) a.book a.words.now (sym c.check.ensures ∙ c.in_default.is)).room

pub returns : goal.returns
unfolding retire
returns c =
    let a = c.args in
    let is = c.check.ensures in record {
      outcome = ap answered (c.with_entries.ensures ∙ ap (with_entries a.book) c.remove-left.ensures.kept)
          ∙ takes (retire a.day) a.book a.words.now _ is c.in_default.is;
      words = c.remove-left.ensures.words ∙ words-change (retire a.day) a.book a.words.now _ is c.in_default.is;
    }
