-- One line of a journal, the reply to it, and the state after it (rules 15.1 to 15.7, and rule 13.40). The calls are the engine's own, by `step`.
use Rattle.std.specs.Prelude.{Result, Bool, true, false, cond, List, [], ◌∷◌, map, ℕ, ◌*◌, ltb, ℤ, length, take, drop, replicate, Option, Some, None, Ok, Err}
use Rattle.market.specs.Answers.{numbered, form_refusal}
use Rattle.market.specs.Books.{paths_of, offer_of}
use Rattle.market.specs.Fresh.{fresh}
use Rattle.market.specs.Limits.{bidder_limit, bid_answer_words, path_answer_words, path_limit, scratch_words, zones}
use Rattle.market.specs.declared.answer.Answer.{Answer}
use Rattle.market.specs.declared.answer.Outcome.{Outcome}
use Rattle.market.specs.declared.book.Book.{Book}
use Rattle.market.specs.declared.answer.Refusal.{Refusal}
use Rattle.engine.specs.Lent.{Lent, lent}
use Rattle.call_rules.specs.Steps.{Left}
use Rattle.engine.specs.Step.{step}
use Rattle.engine.specs.declared.calls.Call.{Call}
use Rattle.engine.specs.declared.calls.Call.TheVariants.{Deposit, Withdraw, Open, Round, Pay, Default, Retire, Rent, Payout, Disburse, Recover}
use Rattle.text_fields.specs.Fields.{starts_with}
use Rattle.journal_reply.specs.Replies.{reply_text}
use Rattle.journal_reply.specs.declared.Told.TheVariants.{Nothing, Listed}
use Rattle.journal_fresh_line.specs.FreshLines.{fresh_said}
use Rattle.journal_fresh_line.specs.declared.FreshLine.{FreshLine}
use Rattle.journal_call_line.specs.CallLine.{line_said, line_words, line_prices}
use Rattle.journal_call_line.specs.declared.CallLine.{CallLine}
use Rattle.journal_step.specs.declared.Journal.{Journal}
use Rattle.journal_step.specs.declared.answers.Tell.{Tell}
use Rattle.journal_step.specs.declared.answers.Tell.TheVariants as tells

-- ---- What a call tells

-- rule 15.7: what an answered call tells besides its number
abbrev pub tell_by : Call → Tell
tell_by (Deposit bidder to amount) = tells.Nothing
tell_by (Withdraw bidder from amount) = tells.Nothing
tell_by (Open kind period) = tells.Offers
tell_by Round = tells.Awards
tell_by (Pay bidder amount) = tells.Nothing
tell_by (Default bidder) = tells.Nothing
tell_by (Retire day) = tells.Nothing
tell_by (Rent amount) = tells.Nothing
tell_by (Payout day failed) = tells.Amounts
tell_by (Disburse total) = tells.Amounts
tell_by (Recover total) = tells.Amounts

-- whether that is what a round tells
abbrev pub is_round : Tell → Bool
is_round tells.Nothing = false
is_round tells.Offers = false
is_round tells.Awards = true
is_round tells.Amounts = false

-- ---- What a call is lent

-- rule 15.1: a line has at most 65,536 bytes before its byte 10
abbrev pub line_bytes : ℕ
line_bytes = 65536

-- rule 16.2: room for the words of a line, each of which takes at least two bytes
abbrev pub word_room : ℕ
word_room = 32768

-- rule 15.3: one of the four columns of 32, which come one after another
abbrev pub column : ℕ → List ℕ → List ℕ
column k list = take bidder_limit (drop (k * bidder_limit) list)

-- rule 15.6: the numbers of the line, lists for what the call answers, and a scratch
abbrev pub lent_with : List ℕ → List ℤ → List ℕ → List ℕ → List ℕ → List ℕ → Lent
lent_with list prices amounts answers results scratch =
    lent list list prices
    (column 0 list)
    (column 1 list)
    (column 2 list)
    (column 3 list)
    amounts
    answers
    results
    scratch

-- rule 15.6: only a round is lent a list for bids and a scratch, of so many zeros; any other call is lent none
abbrev pub for_round : Call → ℕ → List ℕ
for_round call n = replicate (cond (is_round (tell_by call)) n 0) 0

-- rule 15.6: what a call leaves where its lists for answers are zeros, of the lengths of rule 13.1
abbrev pub left_by : Book → List ℕ → Call → List ℕ → List ℤ → Left
left_by b register call list prices =
    step b register call
    (lent_with list prices (replicate bidder_limit 0) (for_round call bid_answer_words) (replicate path_answer_words 0) (for_round call scratch_words))

-- ---- The reply to a call

-- a number of paths, at most as many as a book has slots
abbrev pub within_slots : ℕ → ℕ
within_slots n = cond (ltb path_limit n) path_limit n

-- the offers that the reply to open has
abbrev pub offers_of : Book → List ℕ
offers_of b = map offer_of (paths_of b)

-- rule 15.7: the reply to a call, by what it tells
abbrev pub text_by : Tell → Outcome → List ℕ → List ℕ → List ℕ → List ℕ
text_by tells.Nothing o amounts answers results = reply_text (numbered o.answer) Nothing [] answers (length (paths_of o.book)) results
text_by tells.Offers o amounts answers results = reply_text (numbered o.answer) Listed (offers_of o.book) answers (length (paths_of o.book)) results
text_by tells.Awards o amounts answers results = reply_text (numbered o.answer) Nothing [] answers (length (paths_of o.book)) results
text_by tells.Amounts o amounts answers results = reply_text (numbered o.answer) Listed amounts answers (length (paths_of o.book)) results

abbrev pub call_text : Call → Left → List ℕ
call_text call left = text_by (tell_by call) left.outcome left.lists.amounts left.lists.answers left.lists.results

-- ---- A line

-- the state after a line, and the reply to it
pub record Stepped : Type 0 where
  pub journal : Journal
  pub register : List ℕ
  pub text : List ℕ

-- rules 13.40 and 15.4: `= refused 40`
abbrev pub malformed_reply : List ℕ
malformed_reply = reply_text (Err form_refusal) Nothing [] [] 0 []

-- rule 15.4: such a line changes nothing
abbrev pub turned_away : Journal → List ℕ → Stepped
turned_away j register = record { journal = j; register = register; text = malformed_reply }

-- a call, by the engine's own rules
abbrev pub called_by : Call → Left → Stepped
called_by call left =
    record {
      journal = record { ready = true; book = left.outcome.book };
      register = left.words;
      text = call_text call left;
    }

-- rule 15.4: before a fresh book was answered any call is refused with 40
abbrev pub call_step : Bool → Journal → List ℕ → Call → List ℕ → List ℤ → Stepped
call_step true j register call list prices = called_by call (left_by j.book register call list prices)
call_step false j register call list prices = turned_away j register

-- rule 15.5: an answered fresh book is the journal's; a refused one leaves the journal as it was
abbrev pub fresh_state : Journal → Result Answer Refusal → Book → Journal
fresh_state j (Ok answer) book = record { ready = true; book = book }
fresh_state j (Err refusal) book = j

-- rule 15.5: the words of the register stay
abbrev pub fresh_by : Journal → List ℕ → Outcome → Stepped
fresh_by j register o =
    record {
      journal = fresh_state j o.answer o.book;
      register = register;
      text = reply_text (numbered o.answer) Nothing [] [] 0 [];
    }

-- rules 15.4 and 15.5: the line of a fresh book, which is refused with 40 if it has another form
abbrev pub fresh_step : Journal → List ℕ → FreshLine → Stepped
fresh_step j register f = cond f.present (fresh_by j register (fresh f.routes f.count)) (turned_away j register)

-- rule 15.4: a line of another form is refused with 40
abbrev pub said_step : Journal → List ℕ → Option CallLine → List ℕ → List ℤ → Stepped
said_step j register None list prices = turned_away j register
said_step j register (Some l) list prices = call_step j.ready j register l.call list prices

-- a line that is not that of a fresh book
abbrev pub call_line_step : Journal → List ℕ → List ℕ → Stepped
call_line_step j register line =
    said_step j register (line_said word_room zones line) (line_words word_room zones line) (line_prices word_room zones line)

-- rule 15.2: `fresh`
abbrev pub fresh_word : List ℕ
fresh_word = 102 ∷ 114 ∷ 101 ∷ 115 ∷ 104 ∷ []

-- whether a line is that of a fresh book
abbrev pub is_fresh : List ℕ → Bool
is_fresh line = starts_with fresh_word line

-- rules 15.2 and 15.4: any line, without its byte 10; an empty one has none of the forms
unfoldable pub line_step : Journal → List ℕ → List ℕ → Stepped
line_step j register line =
    cond (is_fresh line) (fresh_step j register (fresh_said (drop (length fresh_word) line))) (call_line_step j register line)

-- the words and prices that a line itself has, which its room then holds at the front
abbrev pub own_words : List ℕ → List ℕ
own_words line = cond (is_fresh line) [] (line_words word_room zones line)

abbrev pub own_prices : List ℕ → List ℤ
own_prices line = cond (is_fresh line) [] (line_prices word_room zones line)
