-- What is promised of every fresh book, every register and every list of calls (rules 12.1 to 12.11).
-- The theorem that it holds is `promise` in proofs/ThePromise.antt.
use Rattle.std.specs.Prelude.{◌≡◌, List, [], ◌∷◌, ℕ, pos, ◌-ℤ◌}
use Rattle.market.specs.Answers.{answer_number}
use Rattle.market.specs.Fresh.{fresh_book}
use Rattle.market.specs.declared.book.Route.{Route}
use Rattle.call_rules.specs.Money.{worth}
use Rattle.promise.specs.Answered.{IfRound, ListsTold, NoRivalAbove, OwnAward, BidsWithin, BiddersWithin}
use Rattle.promise.specs.Runs.{Request, Made, engine_run, rules_run}
use Rattle.promise.specs.Sums.{all_in, all_out, last_book}

-- a fact of each call that was made
abbrev pub EachCall : (Made → Type 0) → List Made → Type 0
EachCall holds [] = Unit {0}
EachCall holds (m ∷ ms) = holds m × EachCall holds ms

-- rule 12.3: the call is not answered with 2
abbrev pub NotUnsound : Made → Type 0
NotUnsound m = answer_number m.reply.answer ≡ 2 → ⊥

-- rule 12.1: the fresh book has the first `paths` of these routes, and the register any words. The theorem assumes that the fresh book was
-- answered and that the register has 6,144 words or more; what is lent to the calls is free.
pub record Promise (routes : List Route) (paths : ℕ) (words : List ℕ) (calls : List Request) : Type 0 where
  -- rule 12.2: answers, lists, books and counted entries are those of the rules, which begin with no entry and see no word of the register
  pub by-the-rules : engine_run (fresh_book routes paths) words calls ≡ rules_run (fresh_book routes paths) [] calls
  -- rule 12.3: no call of the list is answered with 2
  pub never-unsound : EachCall NotUnsound (engine_run (fresh_book routes paths) words calls)
  -- rule 12.4: the two lists of each answered round
  pub lists-told : EachCall (IfRound ListsTold) (engine_run (fresh_book routes paths) words calls)
  -- rules 12.5 and 12.6: the engine's award is one of the rival awards
  pub own-award : EachCall (IfRound OwnAward) (engine_run (fresh_book routes paths) words calls)
  -- rule 12.7: no rival award is above it
  pub best-award : EachCall (IfRound NoRivalAbove) (engine_run (fresh_book routes paths) words calls)
  -- rule 12.8: the charges of bids, and of bidders
  pub bids-within : EachCall (IfRound BidsWithin) (engine_run (fresh_book routes paths) words calls)
  pub bidders-within : EachCall (IfRound BiddersWithin) (engine_run (fresh_book routes paths) words calls)
  -- rules 12.9 and 12.11: the money in the book after the last call, cash held and clearing account, is all money in less all money out
  pub money :
      worth (last_book (fresh_book routes paths) (engine_run (fresh_book routes paths) words calls))
      ≡ pos (all_in (engine_run (fresh_book routes paths) words calls)) -ℤ pos (all_out (engine_run (fresh_book routes paths) words calls))
