-- The form in which each call states its rule, in its own crate: the refusals of its lent lists, how it has the register (rule 3.4), its own
-- refusals, what it answers and leaves where none of them holds, and the money that it moves.
use Rattle.std.specs.Prelude.{Bool, false, List, ℕ, Result}
use Rattle.market.specs.Answers.{Row}
use Rattle.market.specs.declared.answer.Answer.{Answer}
use Rattle.market.specs.declared.answer.Outcome.{Outcome}
use Rattle.market.specs.declared.answer.Refusal.{Refusal}
use Rattle.market.specs.declared.book.Book.{Book}
use Rattle.market.specs.declared.book.Entry.{Entry}

-- rule 3.4: how a call has the register: not at all, to read it, or to change it, which leaves it with these entries
pub data Register : Type 0 where
  unlent : Register
  read : Register
  changed : List Entry → Register

-- rules 7.17, 7.18 and 10.5: an answered call keeps a list, or puts words at its front, and words past them keep what they held
pub data Front : Type 0 where
  kept : Front
  put : List ℕ → Front

-- the lists that some call writes to: amounts and shares by bidder, a round's answers of its bids, and of its paths
pub record Lists : Type 0 where
  pub amounts : List ℕ
  pub answers : List ℕ
  pub results : List ℕ

abbrev pub lists : List ℕ → List ℕ → List ℕ → Lists
lists amounts answers results = record { amounts = amounts; answers = answers; results = results }

-- what an answered call does with each of them, and whether the scratch may then hold any words (rule 7.19)
pub record Fronts : Type 0 where
  pub amounts : Front
  pub answers : Front
  pub results : Front
  pub free : Bool

-- a call that writes to none of them, and one that writes amounts
abbrev pub no_fronts : Fronts
no_fronts = record { amounts = kept; answers = kept; results = kept; free = false }

abbrev pub amounts_put : List ℕ → Fronts
amounts_put amounts = record { amounts = put amounts; answers = kept; results = kept; free = false }

-- a call on a book and its entries: the rows of its lent lists, how it has the register, its own rows, and what it answers and
-- leaves where no row holds
pub record Ruling : Type 0 where
  pub lent : List Row
  pub register : Register
  pub own : List Row
  pub outcome : Outcome
  pub fronts : Fronts

-- what the caller gets: the answer, and the lists that may have been written
pub record Reply : Type 0 where
  pub answer : Result Answer Refusal
  pub lists : Lists

-- a call: its ruling, and the money that comes in and that goes out with its reply
pub record Rule : Type 0 where
  pub on : Book → List Entry → Ruling
  pub into : Reply → ℕ
  pub out : Reply → ℕ
