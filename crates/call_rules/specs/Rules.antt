-- Any rule on a book and the entries that it counts, where no word of the register is read: which call is refused, and what the others leave.
-- Rules of all calls: rules 3.4, 13.2, 13.100 and 13.101.
use Rattle.std.specs.Prelude.{not, List, ◌∷◌, ◌++◌, ℕ, Ok, Err}
use Rattle.market.specs.Answers.{Row, Verdict, ◌gives◌, first_of, decided, decided_list}
use Rattle.market.specs.Books.{with_front}
use Rattle.market.specs.Sound.{sound_book}
use Rattle.market.specs.declared.answer.Outcome.{Outcome}
use Rattle.market.specs.declared.answer.Refusal.{Refusal}
use Rattle.market.specs.declared.book.Book.{Book}
use Rattle.market.specs.declared.book.Entry.{Entry}
use Rattle.register.specs.Refusals.{unsound_register}
use Rattle.call_rules.specs.Rule.{Register, Front, Lists, Fronts, Ruling, Rule}
use Rattle.call_rules.specs.Rule.Register.{unlent, read, changed}
use Rattle.call_rules.specs.Rule.Front.{kept, put}

-- ---- Which calls are answered

-- rule 13.2: a book that is not sound
abbrev pub unsound_book : Book → Row
unsound_book b = not (sound_book b) gives Refusal.Unsound

-- rules 3.4 and 13.2: a call that is lent the register judges the entries too, and every other call the book alone
abbrev pub unsound_row : Register → Book → List Entry → Row
unsound_row unlent b es = unsound_book b
unsound_row read b es = unsound_register b es
unsound_row (changed after) b es = unsound_register b es

-- rule 13.101: the call's lent lists come first, then soundness, then its own rows; the row of a short register is not among them
abbrev pub rows_on : Ruling → Book → List Entry → List Row
rows_on ruling b es = ruling.lent ++ (unsound_row ruling.register b es ∷ ruling.own)

-- ---- What a call leaves, by the verdict of its rows

-- rule 13.100: the entries after a call, which a refused one leaves as before
abbrev pub entries_by : Register → Verdict → List Entry → List Entry
entries_by unlent v es = es
entries_by read v es = es
entries_by (changed after) (Ok done) es = after
entries_by (changed after) (Err refusal) es = es

-- rule 13.100: a lent list after a call, in the same way; then all three
abbrev pub list_by : Front → Verdict → List ℕ → List ℕ
list_by kept v before = before
list_by (put front) v before = decided_list before v (with_front front before)

abbrev pub lists_by : Fronts → Verdict → Lists → Lists
lists_by fronts v before =
    record {
      amounts = list_by fronts.amounts v before.amounts;
      answers = list_by fronts.answers v before.answers;
      results = list_by fronts.results v before.results;
    }

-- ---- A call, refused or answered

-- what a call leaves: answer and book, the entries, and the lists
pub record Effect : Type 0 where
  pub outcome : Outcome
  pub entries : List Entry
  pub lists : Lists

-- rule 13.100: what a call leaves, by the verdict of its rows
abbrev pub effect_by : Ruling → Verdict → Book → List Entry → Lists → Effect
effect_by ruling v b es before =
    record {
      outcome = decided b v ruling.outcome;
      entries = entries_by ruling.register v es;
      lists = lists_by ruling.fronts v before;
    }

-- rules 13.100 and 13.101: what a call leaves, refused with the first row that holds or answered
abbrev pub ruled : Rule → Book → List Entry → Lists → Effect
ruled rule b es before = effect_by (rule.on b es) (first_of (rows_on (rule.on b es) b es)) b es before
