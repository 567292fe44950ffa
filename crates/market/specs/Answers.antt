-- How the refusals of a call are stated and told, what an answer carries, and what a refusal leaves: rules 13.100 and 13.101.
use Rattle.std.specs.Prelude.{Bool, cond, List, [], ◌∷◌, ℕ, Result, Ok, Err}
use Rattle.market.specs.declared.answer.Answer.{Answer}
use Rattle.market.specs.declared.answer.Answer.TheVariants.{Done, Drawn, Bids}
use Rattle.market.specs.declared.answer.Outcome.{Outcome}
use Rattle.market.specs.declared.answer.Refusal.{Refusal}
use Rattle.market.specs.declared.book.Book.{Book}

-- section 13: the number of each refusal: those of the calling program, of a bidder, of the auction desk, and of settlement, and
-- rule 13.40, that of a text which is not of its form
abbrev pub refusal_number : Refusal → ℕ
refusal_number Refusal.ShortBuffer = 1
refusal_number Refusal.Unsound = 2
refusal_number Refusal.Bidder = 10
refusal_number Refusal.Amount = 11
refusal_number Refusal.Withdrawal = 12
refusal_number Refusal.Payment = 13
refusal_number Refusal.Bid = 14
refusal_number Refusal.SecondBid = 15
refusal_number Refusal.Stamp = 16
refusal_number Refusal.Stage = 20
refusal_number Refusal.Days = 21
refusal_number Refusal.BidList = 22
refusal_number Refusal.RegisterFull = 23
refusal_number Refusal.NothingDue = 24
refusal_number Refusal.Quantity = 25
refusal_number Refusal.ZonePrice = 30
refusal_number Refusal.Account = 31
refusal_number Refusal.Total = 32
refusal_number Refusal.Columns = 33
refusal_number Refusal.Form = 40

-- a row of a call's table of refusals: a test, and the refusal that is given where it holds
abbrev pub Row : Type 0
Row = Bool × Refusal

infix 20 ◌gives◌
abbrev pub ◌gives◌ : Bool → Refusal → Row
test gives refusal = (test, refusal)

-- what a table says of a call: that nothing refuses it, or its refusal
abbrev pub Verdict : Type 0
Verdict = Result (Unit {0}) Refusal

abbrev pub no_refusal : Verdict
no_refusal = Ok tt

-- rule 13.101: a call's table has its rows in the order of its refusals, and the first row whose test holds is told
abbrev pub first_of : List Row → Verdict
first_of [] = no_refusal
first_of (row ∷ rows) = cond row.0 (Err row.1) (first_of rows)

-- rule 13.100: the number that a refused call gives; 0 where the call is answered
abbrev pub answer_number : Result Answer Refusal → ℕ
answer_number (Ok answer) = 0
answer_number (Err refusal) = refusal_number refusal

-- rule 13.100: what a call tells: its answer, or the number that it gives
abbrev pub numbered : Result Answer Refusal → Result Answer ℕ
numbered (Ok answer) = Ok answer
numbered (Err refusal) = Err (refusal_number refusal)

-- rules 7.16 and 8.6: what else an answer carries: how many bids a round had, or the draw of a default
abbrev pub answer_values : Result Answer Refusal → List ℕ
answer_values (Ok Done) = []
answer_values (Ok (Drawn draw)) = draw.0 ∷ []
answer_values (Ok (Bids bids)) = bids ∷ []
answer_values (Err refusal) = []

-- how many bids an answer tells of, which is 0 but for a round's; a refusal tells of none, said as itself or by its number
abbrev pub bids_in : {R : Type 0} → Result Answer R → ℕ
bids_in (Ok Done) = 0
bids_in (Ok (Drawn draw)) = 0
bids_in (Ok (Bids bids)) = bids
bids_in (Err refusal) = 0

-- rule 13.100: a refused call gives its refusal, and the book is as before
abbrev pub refused : Book → Refusal → Outcome
refused book refusal = record { answer = Err refusal; book = book }

-- rule 13.40: the number for a text that is not of its form
abbrev pub form_refusal : ℕ
form_refusal = refusal_number Refusal.Form

-- what a call leaves whose answer is only that it is done
abbrev pub answered : Book → Outcome
answered book = record { answer = Ok Done; book = book }

-- rule 8.6: what a call leaves that answers a draw on a letter
abbrev pub drawn : ℕ → Book → Outcome
drawn draw book = record { answer = Ok (Drawn (record { 0 = draw })); book = book }

-- rule 13.100: a refused call leaves the book, and an answered one has its effect on it
abbrev pub decided : Book → Verdict → Outcome → Outcome
decided book (Ok done) taken = taken
decided book (Err refusal) taken = refused book refusal

-- rule 13.100: a lent list in the same way
abbrev pub decided_list : List ℕ → Verdict → List ℕ → List ℕ
decided_list before (Ok done) taken = taken
decided_list before (Err refusal) taken = before
