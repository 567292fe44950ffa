-- Money in and money out (rule 12.10): the rule of each call says what its reply moves, and the amounts are summed over a list of calls and its
-- answers.
use Rattle.std.specs.Prelude.{List, [], ◌∷◌, ℕ, ◌+◌}
use Rattle.market.specs.declared.book.Book.{Book}
use Rattle.engine.specs.Rules.{rule_of}
use Rattle.promise.specs.Runs.{Made}

-- rule 12.10: what comes in and what goes out with one call; nothing where it is refused
abbrev pub money_in : Made → ℕ
money_in m = (rule_of m.request.what m.request.lent).into m.reply

abbrev pub money_out : Made → ℕ
money_out m = (rule_of m.request.what m.request.lent).out m.reply

-- rule 12.11: all money in and all money out of a list
abbrev pub all_in : List Made → ℕ
all_in [] = 0
all_in (m ∷ ms) = money_in m + all_in ms

abbrev pub all_out : List Made → ℕ
all_out [] = 0
all_out (m ∷ ms) = money_out m + all_out ms

-- rule 12.11: the book at the end of the list
abbrev pub last_book : Book → List Made → Book
last_book b [] = b
last_book b (m ∷ ms) = last_book m.book ms
