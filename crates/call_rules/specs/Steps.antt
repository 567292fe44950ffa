-- Any rule on a book and the words of the register, as the engine's functions keep it: the entries are those that the book counts in the words,
-- 1 may be given for a short register, and entries that change are written over the words. Rules 3.3, 7.19, 13.100 and 13.101.
use Rattle.std.specs.Prelude.{◌≡◌, Bool, true, false, List, [], ◌∷◌, ◌++◌, ℕ, length, Ok, Err}
use Rattle.market.specs.Answers.{Row, Verdict, first_of, decided, decided_list}
use Rattle.market.specs.declared.answer.Outcome.{Outcome}
use Rattle.market.specs.declared.book.Book.{Book}
use Rattle.register.specs.Refusals.{counted_entries, register_refusals}
use Rattle.register.specs.Words.{entries_written}
use Rattle.call_rules.specs.Rule.{Register, Front, Lists, Fronts, Ruling, Rule}
use Rattle.call_rules.specs.Rule.Register.{unlent, read, changed}
use Rattle.call_rules.specs.Rules.{unsound_book, list_by}

-- rules 3.4, 13.1 and 13.2: the length of the register where it is lent, and soundness
abbrev pub register_rows : Register → Book → List ℕ → List Row
register_rows unlent b words = unsound_book b ∷ []
register_rows read b words = register_refusals b words
register_rows (changed after) b words = register_refusals b words

-- rule 13.101: all rows of a call in their order: its lent lists, the register and soundness, then its own
abbrev pub rows_over : Ruling → Book → List ℕ → List Row
rows_over ruling b words = ruling.lent ++ (register_rows ruling.register b words ++ ruling.own)

-- a call's ruling, with the entries read from the words
abbrev pub ruling_of : Rule → Book → List ℕ → Ruling
ruling_of rule b words = rule.on b (counted_entries b words)

-- the words for a call that is lent no register
abbrev pub no_register : List ℕ
no_register = []

-- rule 13.101: whether a call is refused, and by what
unfoldable pub verdict_of : Rule → Book → List ℕ → Verdict
verdict_of rule b words = first_of (rows_over (ruling_of rule b words) b words)

-- rule 13.100: answer and book after a call
unfoldable pub outcome_of : Rule → Book → List ℕ → Outcome
outcome_of rule b words = decided b (verdict_of rule b words) (ruling_of rule b words).outcome

-- rules 3.3 and 13.100: the register's words: a refused call leaves them, and no word past the entries is written
abbrev pub words_by : Register → Verdict → List ℕ → List ℕ
words_by unlent v words = words
words_by read v words = words
words_by (changed after) v words = decided_list words v (entries_written words after)

-- rule 3.3: the register's words after a call
unfoldable pub words_after : Rule → Book → List ℕ → List ℕ
words_after rule b words = words_by (ruling_of rule b words).register (verdict_of rule b words) words

-- a lent list after a call, by which of the fronts is its own
unfoldable pub list_after : (Fronts → Front) → Rule → Book → List ℕ → List ℕ → List ℕ
list_after which rule b words before = list_by (which (ruling_of rule b words).fronts) (verdict_of rule b words) before

-- the front of each list
abbrev pub to_amounts : Fronts → Front
to_amounts fronts = fronts.amounts

abbrev pub to_answers : Fronts → Front
to_answers fronts = fronts.answers

abbrev pub to_results : Fronts → Front
to_results fronts = fronts.results

-- rules 7.19 and 13.100: after an answered round the scratch holds anything, and else what it held; its length stays
abbrev pub ScratchBy : Bool → Verdict → List ℕ → List ℕ → Type 0
ScratchBy false v before after = after ≡ before
ScratchBy true (Ok done) before after = length after ≡ length before
ScratchBy true (Err refusal) before after = after ≡ before

-- rule 7.19: how the scratch may be after a call
unfoldable pub ScratchAfter : Rule → Book → List ℕ → List ℕ → List ℕ → Type 0
ScratchAfter rule b words before after = ScratchBy (ruling_of rule b words).fronts.free (verdict_of rule b words) before after

-- what a call leaves: answer and book, the register's words, and the lists
pub record Left : Type 0 where
  pub outcome : Outcome
  pub words : List ℕ
  pub lists : Lists

abbrev pub leaving : Outcome → List ℕ → Lists → Left
leaving outcome words after = record { outcome = outcome; words = words; lists = after }

-- the three lists after a call, and all that it leaves
abbrev pub lists_after : Rule → Book → List ℕ → Lists → Lists
lists_after rule b words before =
    record {
      amounts = list_after to_amounts rule b words before.amounts;
      answers = list_after to_answers rule b words before.answers;
      results = list_after to_results rule b words before.results;
    }

abbrev pub step_by : Rule → Book → List ℕ → Lists → Left
step_by rule b words before = leaving (outcome_of rule b words) (words_after rule b words) (lists_after rule b words before)
