-- The money in a book, and what a reply moves of it: rules 12.9 and 12.10.
use Rattle.std.specs.Prelude.{List, [], ◌∷◌, ℕ, ◌+◌, ℤ, pos, ◌+ℤ◌, get_or, Result, Ok, Err}
use Rattle.market.specs.Answers.{answer_values}
use Rattle.market.specs.Books.{held_of}
use Rattle.market.specs.declared.answer.Answer.{Answer}
use Rattle.market.specs.declared.answer.Refusal.{Refusal}
use Rattle.market.specs.declared.book.Bidder.{Bidder}
use Rattle.market.specs.declared.book.Book.{Book}
use Rattle.call_rules.specs.Rule.{Reply}

-- rule 12.9: the cash held in a book, which is the cash and applied cash of its bidders
abbrev pub held_by_all : List Bidder → ℕ
held_by_all [] = 0
held_by_all (x ∷ xs) = held_of x + held_by_all xs

abbrev pub cash_held : Book → ℕ
cash_held b = held_by_all b.bidders

-- rule 12.9: the money in a book: cash held and the account, which may be below 0
abbrev pub worth : Book → ℤ
worth b = pos (cash_held b) +ℤ b.account.0

-- an amount that moves only if a call is answered
abbrev pub amount_if : Result Answer Refusal → ℕ → ℕ
amount_if (Ok answer) amount = amount
amount_if (Err refusal) amount = 0

-- rule 12.10: a refused call moves no money
abbrev pub if_answered : ℕ → Reply → ℕ
if_answered amount reply = amount_if reply.answer amount

-- rule 12.10: a call that moves no money in a direction, whatever it replies
abbrev pub nothing : Reply → ℕ
nothing reply = 0

-- rule 12.10: the draw that a default answers comes in
abbrev pub drawn_in : Reply → ℕ
drawn_in reply = get_or (answer_values reply.answer) 0 0
