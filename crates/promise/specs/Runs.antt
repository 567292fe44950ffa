-- A list of calls made one after another, by the engine and by the rules (rules 12.1 and 12.2). The engine works on the words of a register; the
-- rules keep a book and the list of its counted entries, and no word of the register is among what they know.
use Rattle.std.specs.Prelude.{List, [], ◌∷◌, ℕ}
use Rattle.market.specs.declared.book.Book.{Book}
use Rattle.market.specs.declared.book.Entry.{Entry}
use Rattle.register.specs.Refusals.{counted_entries}
use Rattle.call_rules.specs.Rule.{Reply}
use Rattle.call_rules.specs.Rules.{Effect, ruled}
use Rattle.call_rules.specs.Steps.{Left}
use Rattle.engine.specs.Lent.{Lent, lists_of}
use Rattle.engine.specs.Rules.{rule_of}
use Rattle.engine.specs.Step.{step}
use Rattle.engine.specs.declared.calls.Call.{Call}

-- a call, and the lists that are lent to it
pub record Request : Type 0 where
  pub what : Call
  pub lent : Lent

-- a call that was made: the book before it, what it was, what came back, and book and entries after it
pub record Made : Type 0 where
  pub before : Book
  pub request : Request
  pub reply : Reply
  pub book : Book
  pub entries : List Entry

-- the call as it was made, from what it did
abbrev pub made_with : Book → Request → Effect → Made
made_with b r done =
    record {
      before = b;
      request = r;
      reply = record { answer = done.outcome.answer; lists = done.lists };
      book = done.outcome.book;
      entries = done.entries;
    }

-- ---- The engine, whose function `call` takes a step over the book and the words of the register

-- the entries are read from the words that it leaves
abbrev pub left_with : Left → Effect
left_with left =
    record { outcome = left.outcome; entries = counted_entries left.outcome.book left.words; lists = left.lists }

-- rule 12.1: the first call has the fresh book and whatever the register holds; each later one has what the call before it left, and its own lists
abbrev pub engine_step : Book → List ℕ → Request → Left
engine_step b words r = step b words r.what r.lent

abbrev pub engine_made : Book → List ℕ → Request → Made
engine_made b words r = made_with b r (left_with (engine_step b words r))

abbrev pub engine_run : Book → List ℕ → List Request → List Made
engine_run b words [] = []
engine_run b words (r ∷ rs) =
    engine_made b words r ∷ engine_run (engine_step b words r).outcome.book (engine_step b words r).words rs

-- ---- The rules, which know the book and its entries alone

-- rule 12.2: the rules' own run, from a book, its entries and the arguments of the calls
abbrev pub rules_made : Book → List Entry → Request → Made
rules_made b es r = made_with b r (ruled (rule_of r.what r.lent) b es (lists_of r.lent))

abbrev pub rules_run : Book → List Entry → List Request → List Made
rules_run b es [] = []
rules_run b es (r ∷ rs) = rules_made b es r ∷ rules_run (rules_made b es r).book (rules_made b es r).entries rs
