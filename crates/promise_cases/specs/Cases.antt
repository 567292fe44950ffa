-- Starred cases with their numbers, proved of the rules themselves and not only tested: rules 6.3 to 6.7, rules 7.6 to 7.18, rules 8.5 to 8.7,
-- rule 10.4 and rules 11.3 to 11.7. Each is a list of calls that the rules take from a fresh book, and what they then say.
use Rattle.std.specs.Prelude.{Result, ◌≡◌, false, List, [], ◌∷◌, ◌++◌, map, ℕ, ◌+◌, ◌-◌, ◌*◌, ℤ, pos, neg_ℤ, length, take, drop, replicate, Ok}
use Rattle.market.specs.Books.{cents, day_number, paths_of, bidder_of, offer_of}
use Rattle.market.specs.Fresh.{fresh_book}
use Rattle.market.specs.Limits.{bidder_limit, bid_answer_size, bid_answer_words, path_answer_size, path_answer_words, scratch_words, zones, reserve}
use Rattle.market.specs.declared.answer.Answer.{Answer}
use Rattle.market.specs.declared.answer.Answer.TheVariants.{Done, Drawn, Bids}
use Rattle.market.specs.declared.book.Bidder.{Bidder}
use Rattle.market.specs.declared.book.Direction.TheVariants.{Export, Import}
use Rattle.market.specs.declared.book.Kind.{Kind}
use Rattle.market.specs.declared.book.Kind.TheVariants.{Short, Long}
use Rattle.market.specs.declared.book.Period.{Period}
use Rattle.market.specs.declared.book.Route.{Route}
use Rattle.market.specs.declared.book.Stage.{Stage}
use Rattle.market.specs.declared.book.Stage.TheVariants as stages
use Rattle.market.specs.declared.answer.Refusal.{Refusal}
use Rattle.call_funding.specs.declared.Funds.TheVariants.{Cash, Letter}
use Rattle.register.specs.Words.{encoded_entry}
use Rattle.engine.specs.Lent.{Lent, lent}
use Rattle.engine.specs.declared.calls.Call.{Call}
use Rattle.engine.specs.declared.calls.Call.TheVariants.{Deposit, Open, Round, Pay, Default, Rent, Payout, Disburse}
use Rattle.promise_cases.specs.SheetText.{SheetText}
use Rattle.promise.specs.Runs.{Request, Made, rules_run}

-- ---- Calls

-- a list to be written to: it holds a word that no case answers, so that what a call has left unwritten shows
abbrev pub stale : ℕ → List ℕ
stale n = replicate n 77

-- what is lent: these lists to be read, and lists to be written to, each of its length in rule 13.1
abbrev pub lent_for_case : List ℕ → List ℕ → List ℤ → List ℕ → List ℕ → List ℕ → List ℕ → Lent
lent_for_case quantities bids prices provincial export meters interties =
    lent quantities bids prices provincial export meters interties
    (stale bidder_limit)
    (stale bid_answer_words)
    (stale path_answer_words)
    (stale scratch_words)

-- a call that reads no list
abbrev pub plain : Call → Request
plain what = record { what = what; lent = lent_for_case [] [] [] [] [] [] [] }

-- deposits of cash and of letter, in cents
abbrev pub cash_deposit : ℕ → ℕ → Request
cash_deposit bidder amount = plain (Deposit bidder Cash (cents amount))

abbrev pub lodges : ℕ → ℕ → Request
lodges bidder amount = plain (Deposit bidder Letter (cents amount))

-- a payment, and a default
abbrev pub pays : ℕ → ℕ → Request
pays bidder amount = plain (Pay bidder (cents amount))

abbrev pub defaults : ℕ → Request
defaults bidder = plain (Default bidder)

-- the period of every auction
abbrev pub month : Period
month = record { first = day_number 9191; last = day_number 9221 }

-- an auction with these quantities, four for each path (rule 6.2)
abbrev pub opens : Kind → List ℕ → Request
opens kind quantities =
    record { what = Open kind month; lent = lent_for_case quantities [] [] [] [] [] [] }

-- a round with these words of bids (rule 7.1)
abbrev pub bidding : List ℕ → Request
bidding bids = record { what = Round; lent = lent_for_case [] bids [] [] [] [] [] }

-- an hour of one of these days, with the same price in every zone
abbrev pub hour : ℤ → Request
hour price =
    record { what = Payout (day_number 9200) false; lent = lent_for_case [] [] (replicate zones price) [] [] [] [] }

-- ---- Runs

-- the calls as the rules take them, from the fresh book with these paths
abbrev pub run : List Route → List Request → List Made
run routes calls = rules_run (fresh_book routes (length routes)) [] calls

-- a path of each direction
abbrev pub export_path : Route
export_path = record { direction = Export; zone = 2 }

abbrev pub import_path : Route
import_path = record { direction = Import; zone = 2 }

-- what is read of the last call of a run; `none` where there is no call
abbrev pub lastly : {A : Type 0} → (Made → A) → A → List Made → A
lastly read none [] = none
lastly read none (m ∷ ms) = lastly read (read m) ms

-- ---- What is read

-- the answer of a call
abbrev pub answer : Made → Result Answer Refusal
answer m = m.reply.answer

-- the words of the first `bids` bids (rule 7.17)
abbrev pub bid_answers : ℕ → Made → List ℕ
bid_answers bids m = take (bids * bid_answer_size) m.reply.lists.answers

-- the words of all paths (rule 7.18)
abbrev pub path_answers : Made → List ℕ
path_answers m = take (m.book.path_count * path_answer_size) m.reply.lists.results

-- the first `n` amounts or shares
abbrev pub amounts : ℕ → Made → List ℕ
amounts n m = take n m.reply.lists.amounts

-- the five amounts of a bidder (rule 2.3)
abbrev pub money_of : Bidder → List ℕ
money_of x = x.cash.0 ∷ x.applied.0 ∷ x.letter.0 ∷ x.hold.0 ∷ x.owed.0 ∷ []

abbrev pub money : ℕ → Made → List ℕ
money bidder m = money_of (bidder_of m.book bidder)

-- the counted entries, six words each (rule 3.1)
abbrev pub entries : Made → List (List ℕ)
entries m = map encoded_entry m.entries

-- the offer of each path
abbrev pub offers : Made → List ℕ
offers m = map offer_of (paths_of m.book)

-- the clearing account, and the stage
abbrev pub account : Made → ℤ
account m = m.book.account.0

abbrev pub stage : Made → Stage
stage m = m.book.stage

-- ---- The cases' calls

-- an S auction without a bid
abbrev pub no_bids : List Made
no_bids = run (export_path ∷ []) (opens Short (1000 ∷ 60 ∷ 80 ∷ 100 ∷ []) ∷ bidding [] ∷ [])

-- the starred sheet, call by call
abbrev pub sheet_calls : List Request
sheet_calls =
    cash_deposit 3 100000
    ∷ lodges 7 1000000
    ∷ opens Short (1000 ∷ 60 ∷ 80 ∷ 100 ∷ [])
    ∷ bidding (3 ∷ 0 ∷ 100 ∷ 2 ∷ 20000 ∷ 20 ∷ 15000 ∷ 30 ∷ 7 ∷ 0 ∷ 130 ∷ 1 ∷ 15000 ∷ 40 ∷ [])
    ∷ []

abbrev pub sheet : List Made
sheet = run (export_path ∷ []) sheet_calls

-- an L auction with an offer of 203, which is floor(812 / 4). The first round's one bid takes `sold` MW, and the second round has no bid.
abbrev pub long_selling : ℕ → List Made
long_selling sold =
    run (export_path ∷ [])
    (cash_deposit 0 100
    ∷ opens Long (812 ∷ 203 ∷ 203 ∷ 203 ∷ [])
    ∷ bidding (0 ∷ 0 ∷ 0 ∷ 1 ∷ 1 ∷ sold ∷ [])
    ∷ bidding []
    ∷ [])

-- an auction with a base of 800, a FUL of 500 and the capabilities 400 and 300
abbrev pub limited : Kind → Request
limited kind = opens kind (800 ∷ 500 ∷ 400 ∷ 300 ∷ [])

-- the same where 350 MW are outstanding: an S auction of the same days has sold them, and they are paid
abbrev pub with350_out : Kind → List Made
with350_out kind =
    run (export_path ∷ [])
    (cash_deposit 0 350
    ∷ opens Short (350 ∷ 350 ∷ 350 ∷ 350 ∷ [])
    ∷ bidding (0 ∷ 0 ∷ 0 ∷ 1 ∷ 1 ∷ 350 ∷ [])
    ∷ pays 0 0
    ∷ limited kind
    ∷ [])

-- a round of two paths with these bids, by a bidder that has 100,000 cents of cash
abbrev pub bidding_from100000 : List ℕ → List Made
bidding_from100000 bids =
    run (export_path ∷ import_path ∷ [])
    (cash_deposit 0 100000 ∷ opens Short (replicate 8 10) ∷ bidding bids ∷ [])

-- 1 MW for 1,000,000; and in another round 1 MW for 1,000,001 and on the other path 1 MW for 999,999
abbrev pub at_limit : List Made
at_limit = bidding_from100000 (0 ∷ 0 ∷ 0 ∷ 1 ∷ 1000000 ∷ 1 ∷ [])

abbrev pub over_limit : List Made
over_limit = bidding_from100000 (0 ∷ 0 ∷ 0 ∷ 1 ∷ 1000001 ∷ 1 ∷ 0 ∷ 1 ∷ 0 ∷ 1 ∷ 999999 ∷ 1 ∷ [])

-- a bidder of the starred sheet defaults
abbrev pub defaulting : ℕ → List Made
defaulting bidder = run (export_path ∷ []) (sheet_calls ++ defaults bidder ∷ [])

-- bidder 0 has bought and paid 100 MW on a path, and an hour with this price follows
abbrev pub earning : Route → ℤ → List Made
earning path price =
    run (path ∷ [])
    (cash_deposit 0 100
    ∷ opens Short (100 ∷ 100 ∷ 100 ∷ 100 ∷ [])
    ∷ bidding (0 ∷ 0 ∷ 0 ∷ 1 ∷ 1 ∷ 100 ∷ [])
    ∷ pays 0 0
    ∷ hour price
    ∷ [])

-- a column of 32: these words for the first participants, and 0 for the others
abbrev pub column_from : List ℕ → List ℕ
column_from firsts = firsts ++ replicate (bidder_limit - length firsts) 0

-- participants 0 and 1 have a provincial charge of 1 and energy at meters of 1 and 3; participant 2 has an export charge of 1 and 5 at interties
abbrev pub shared : ℕ → Request
shared total =
    record {
      what = Disburse (cents total);
      lent =
          lent_for_case [] [] []
          (column_from (1 ∷ 1 ∷ []))
          (column_from (0 ∷ 0 ∷ 1 ∷ []))
          (column_from (1 ∷ 3 ∷ []))
          (column_from (0 ∷ 0 ∷ 5 ∷ []));
    }

-- 1,000 cents are disbursed from an account that has just as much above what rule 11.8 keeps in it
abbrev pub disbursing : List Made
disbursing = run (export_path ∷ []) (plain (Rent (cents (reserve + 1000))) ∷ shared 1000 ∷ [])

-- ---- The rows

-- rules 7.10 and 7.15: a round without bids sells nothing and has no price, and the book is idle after it
pub record NoBids : Type 0 where
  pub answered : map answer no_bids ≡ Ok Done ∷ Ok (Bids 0) ∷ []
  pub path : lastly path_answers [] no_bids ≡ 60 ∷ 0 ∷ 0 ∷ []
  pub idle-after : map stage no_bids ≡ stages.Open Short 1 month ∷ stages.Idle ∷ []

-- rules 7.6 to 7.14: the starred sheet, with the words of its bids and its path, its bidders and its entries
pub record SheetCase : Type 0 where
  pub answered : map answer sheet ≡ Ok Done ∷ Ok Done ∷ Ok Done ∷ Ok (Bids 2) ∷ []
  pub bids :
      lastly (bid_answers 2) [] sheet ≡ 1 ∷ 850000 ∷ 50 ∷ 750000 ∷ 1 ∷ 600000 ∷ 10 ∷ 150000 ∷ []
  pub path : lastly path_answers [] sheet ≡ 60 ∷ 60 ∷ 15000 ∷ []
  pub bidder-3 : lastly (money 3) [] sheet ≡ 0 ∷ 100000 ∷ 0 ∷ 0 ∷ 650000 ∷ []
  pub bidder-7 : lastly (money 7) [] sheet ≡ 0 ∷ 0 ∷ 1000000 ∷ 15000 ∷ 150000 ∷ []
  pub pending :
      lastly entries [] sheet
      ≡ (3 ∷ 0 ∷ 50 ∷ 9191 ∷ 9221 ∷ 1 ∷ []) ∷ (7 ∷ 0 ∷ 10 ∷ 9191 ∷ 9221 ∷ 1 ∷ []) ∷ []

-- rule 6.7: of an L offer of 203 round 1 offers 50; round 2 offers 153 after 50 sold, and 193 after 10 sold
pub record LongRounds : Type 0 where
  pub offer : lastly offers [] (long_selling 50) ≡ 203 ∷ []
  pub if-50-sold : map path_answers (drop 2 (long_selling 50)) ≡ (50 ∷ 50 ∷ 1 ∷ []) ∷ (153 ∷ 0 ∷ 0 ∷ []) ∷ []
  pub if-10-sold : map path_answers (drop 2 (long_selling 10)) ≡ (50 ∷ 10 ∷ 1 ∷ []) ∷ (193 ∷ 0 ∷ 0 ∷ []) ∷ []

-- rules 6.3 to 6.5: 200 MW for L; with 350 MW outstanding 150 for L and none for S
pub record Offers : Type 0 where
  pub long : lastly offers [] (run (export_path ∷ []) (limited Long ∷ [])) ≡ 200 ∷ []
  pub out : lastly entries [] (with350_out Long) ≡ (0 ∷ 0 ∷ 350 ∷ 9191 ∷ 9221 ∷ 2 ∷ []) ∷ []
  pub long-with-out : lastly offers [] (with350_out Long) ≡ 150 ∷ []
  pub short-with-out : lastly offers [] (with350_out Short) ≡ 0 ∷ []

-- rules 7.6 and 7.7: with 100,000 of cash a bid value of 1,000,000 is admitted and one of 1,000,001 is over, which leaves room for 999,999
pub record Admission : Type 0 where
  pub at-limit : lastly (bid_answers 1) [] at_limit ≡ 1 ∷ 1000000 ∷ 1 ∷ 1000000 ∷ []
  pub over-limit :
      lastly (bid_answers 2) [] over_limit ≡ 0 ∷ 1000001 ∷ 0 ∷ 0 ∷ 1 ∷ 999999 ∷ 1 ∷ 999999 ∷ []

-- rules 8.5 to 8.7: bidder 3 forfeits 75,000 and keeps 25,000 of cash; for bidder 7, 15,000 are drawn on the letter
pub record Defaults : Type 0 where
  pub forfeit-3 : lastly account (pos 0) (defaulting 3) ≡ pos 75000
  pub cash-3 : lastly (money 3) [] (defaulting 3) ≡ 25000 ∷ 0 ∷ 0 ∷ 0 ∷ 0 ∷ []
  pub draw-7 : lastly answer (Ok Done) (defaulting 7) ≡ Ok (Drawn (cents 15000))

-- rule 10.4: 100 MW earn 100,000 on an X path and nothing on an M path at 1,000, and 150,000 on an M path at −1,500
pub record Earnings : Type 0 where
  pub X-above : lastly (amounts 1) [] (earning export_path (pos 1000)) ≡ 100000 ∷ []
  pub M-above : lastly (amounts 1) [] (earning import_path (pos 1000)) ≡ 0 ∷ []
  pub M-below : lastly (amounts 1) [] (earning import_path (neg_ℤ (pos 1500))) ≡ 150000 ∷ []

-- rules 11.3 to 11.7: of 1,000 the three participants get 167, 499 and 334
pub record Shares : Type 0 where
  pub shared-out : lastly (amounts 3) [] disbursing ≡ 167 ∷ 499 ∷ 334 ∷ []

-- every starred case
pub record Starred : Type 0 where
  pub no-bids : NoBids
  pub sheet : SheetCase
  pub sheet-text : SheetText
  pub long-rounds : LongRounds
  pub offers : Offers
  pub admission : Admission
  pub defaults : Defaults
  pub earnings : Earnings
  pub shares : Shares
