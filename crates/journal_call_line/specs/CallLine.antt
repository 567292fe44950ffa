-- What a line of a journal says, call by call (rules 15.2 and 15.3). A line of another form says nothing (rule 15.4).
use Rattle.std.specs.Prelude.{◌≡◌, Bool, true, false, cond, ◌&&◌, List, [], ◌∷◌, ◌++◌, ℕ, ◌+◌, ◌*◌, ◌%◌, eqb, ℤ, length, drop, Option, Some, None}
use Rattle.market.specs.Books.{cents, day_number, with_front}
use Rattle.market.specs.Limits.{bidder_limit, quantity_words, zones}
use Rattle.market.specs.declared.book.Kind.{Kind}
use Rattle.market.specs.declared.book.Kind.TheVariants.{Short, Long}
use Rattle.market.specs.declared.book.Period.{Period}
use Rattle.call_funding.specs.declared.Funds.{Funds}
use Rattle.call_funding.specs.declared.Funds.TheVariants.{Cash, Letter}
use Rattle.engine.specs.declared.calls.Call.{Call}
use Rattle.engine.specs.declared.calls.Call.TheVariants.{Deposit, Withdraw, Open, Round, Pay, Default, Retire, Rent, Payout, Disburse, Recover}
use Rattle.text_fields.specs.Fields.{word_top, starts_with}
use Rattle.text_fields.specs.declared.Field.{Field}
use Rattle.journal_fields.specs.declared.Found.{Found}
use Rattle.journal_fields.specs.JournalFields.{wide_top, present, is_found, number, last_number, choice, words_said, words_used, prices_said, prices_used}
use Rattle.journal_call_line.specs.declared.heads.HourLine.{HourLine}
use Rattle.journal_call_line.specs.declared.heads.Opening.{Opening}
use Rattle.journal_call_line.specs.declared.CallLine.{CallLine}

-- what is read of a line: its call, which it says only if the whole line has the call's form, and the list that it ends in, of words or of prices
pub record Reading : Type 0 where
  pub whole : Bool
  pub call : Call
  pub words : List ℕ
  pub prices : List ℤ

-- a call, and how many words and prices its line has
abbrev pub called : Call → ℕ → ℕ → CallLine
called call words prices = record { call = call; words = words; prices = prices }

-- rule 15.4: a call and how many words and prices it has, or none, for a line of another form
abbrev pub said_of : Reading → Option CallLine
said_of r = cond r.whole (Some (called r.call (length r.words) (length r.prices))) None

-- what a reader of a line leaves: what the line says, and its words and prices at the front of two lists
pub record ReadInto (r : Reading) (said : Option CallLine) (words words' : List ℕ) (prices prices' : List ℤ) : Type 0 where
  pub says : said ≡ said_of r
  pub laid : words' ≡ with_front r.words words
  pub priced : prices' ≡ with_front r.prices prices

-- a reading without a list
abbrev pub plainly : Bool → Call → Reading
plainly whole call = record { whole = whole; call = call; words = []; prices = [] }

-- and one with words
abbrev pub with_words : Bool → Call → List ℕ → Reading
with_words whole call words = record { whole = whole; call = call; words = words; prices = [] }

-- ---- deposit B cash|letter AMOUNT, withdraw B cash|letter AMOUNT

-- rule 15.2: `deposit`
abbrev pub deposit_word : List ℕ
deposit_word = 100 ∷ 101 ∷ 112 ∷ 111 ∷ 115 ∷ 105 ∷ 116 ∷ []

-- rule 15.2: `withdraw`
abbrev pub withdraw_word : List ℕ
withdraw_word = 119 ∷ 105 ∷ 116 ∷ 104 ∷ 100 ∷ 114 ∷ 97 ∷ 119 ∷ []

-- rule 15.2: ` cash`; an option is one of two words, each with its space
abbrev pub cash_option : List ℕ
cash_option = 32 ∷ 99 ∷ 97 ∷ 115 ∷ 104 ∷ []

-- rule 15.2: ` letter`
abbrev pub letter_option : List ℕ
letter_option = 32 ∷ 108 ∷ 101 ∷ 116 ∷ 116 ∷ 101 ∷ 114 ∷ []

-- the call of a bidder, cash or letter, and an amount
abbrev pub account_call : Bool → ℕ → Funds → ℕ → Call
account_call true bidder funds amount = Deposit bidder funds (cents amount)
account_call false bidder funds amount = Withdraw bidder funds (cents amount)

-- rules 15.2 and 15.3: the line of a deposit or of a withdrawal, with an amount below 2^64
abbrev pub account_read : Bool → List ℕ → Reading
account_read deposit text =
    let b = number word_top text in
    let f = choice cash_option Cash letter_option Letter (drop b.used text) in
    let a = last_number wide_top (drop (b.used + f.used) text) in
    plainly (present b && is_found f && present a) (account_call deposit b.value f.value a.value)

-- ---- pay B AMOUNT

-- rule 15.2: `pay`
abbrev pub pay_word : List ℕ
pay_word = 112 ∷ 97 ∷ 121 ∷ []

-- rules 15.2 and 15.3: the line of a payment
abbrev pub pay_read : List ℕ → Reading
pay_read text =
    let b = number word_top text in
    let a = last_number wide_top (drop b.used text) in
    plainly (present b && present a) (Pay b.value (cents a.value))

-- ---- default B

-- rule 15.2: `default`
abbrev pub default_word : List ℕ
default_word = 100 ∷ 101 ∷ 102 ∷ 97 ∷ 117 ∷ 108 ∷ 116 ∷ []

-- rules 15.2 and 15.3: the line of a default
abbrev pub default_read : List ℕ → Reading
default_read text = let b = last_number word_top text in plainly (present b) (Default b.value)

-- ---- retire DAY

-- rule 15.2: `retire`
abbrev pub retire_word : List ℕ
retire_word = 114 ∷ 101 ∷ 116 ∷ 105 ∷ 114 ∷ 101 ∷ []

-- rules 15.2 and 15.3: the line of retire
abbrev pub retire_read : List ℕ → Reading
retire_read text = let d = last_number word_top text in plainly (present d) (Retire (day_number d.value))

-- ---- rent AMOUNT

-- rule 15.2: `rent`
abbrev pub rent_word : List ℕ
rent_word = 114 ∷ 101 ∷ 110 ∷ 116 ∷ []

-- rules 15.2 and 15.3: the line of rent
abbrev pub rent_read : List ℕ → Reading
rent_read text = let a = last_number wide_top text in plainly (present a) (Rent (cents a.value))

-- ---- open S|L FIRST LAST Q Q Q Q ...

-- rule 15.2: `open`
abbrev pub open_word : List ℕ
open_word = 111 ∷ 112 ∷ 101 ∷ 110 ∷ []

-- rule 15.2: ` S`
abbrev pub short_option : List ℕ
short_option = 32 ∷ 83 ∷ []

-- rule 15.2: ` L`
abbrev pub long_option : List ℕ
long_option = 32 ∷ 76 ∷ []

-- a period of two days
abbrev pub period_from : ℕ → ℕ → Period
period_from first last = record { first = day_number first; last = day_number last }

-- kind and period, whether they are present, and the bytes that they take
abbrev pub opening_of : Found Kind → Field → Field → Opening
opening_of k f l =
    record {
      present = is_found k && present f && present l;
      kind = k.value;
      period = period_from f.value l.value;
      used = k.used + f.used + l.used;
    }

unfoldable pub opening : List ℕ → Opening
opening text =
    let k = choice short_option Short long_option Long text in
    let f = number word_top (drop k.used text) in
    opening_of k f (number word_top (drop (k.used + f.used) text))

-- a list of `used` bytes after the first `from` bytes of a text goes on to its end
abbrev pub ends : List ℕ → ℕ → ℕ → Bool
ends text from used = eqb (from + used) (length text)

-- rules 15.2 and 15.3: the line of open, with whole groups of four words; how many groups is left to the engine
abbrev pub open_read : ℕ → List ℕ → Reading
open_read cap text =
    let h = opening text in
    let list = drop h.used text in
    let words = words_said cap list in
    with_words (h.present && ends text h.used (words_used cap list) && eqb (length words % quantity_words) 0) (Open h.kind h.period) words

-- ---- round W W W ...

-- rule 15.2: `round`
abbrev pub round_word : List ℕ
round_word = 114 ∷ 111 ∷ 117 ∷ 110 ∷ 100 ∷ []

-- rules 15.2 and 15.3: the line of a round; how many words it has is left to the engine
abbrev pub round_read : ℕ → List ℕ → Reading
round_read cap text = with_words (ends text 0 (words_used cap text)) Round (words_said cap text)

-- ---- payout DAY failed|priced P ... P

-- rule 15.2: `payout`
abbrev pub payout_word : List ℕ
payout_word = 112 ∷ 97 ∷ 121 ∷ 111 ∷ 117 ∷ 116 ∷ []

-- rule 15.2: ` failed`
abbrev pub failed_option : List ℕ
failed_option = 32 ∷ 102 ∷ 97 ∷ 105 ∷ 108 ∷ 101 ∷ 100 ∷ []

-- rule 15.2: ` priced`
abbrev pub priced_option : List ℕ
priced_option = 32 ∷ 112 ∷ 114 ∷ 105 ∷ 99 ∷ 101 ∷ 100 ∷ []

-- the day and whether the hour has failed, whether they are present, and the bytes that they take
abbrev pub hour_of : Field → Found Bool → HourLine
hour_of d h =
    record {
      present = present d && is_found h;
      day = day_number d.value;
      failed = h.value;
      used = d.used + h.used;
    }

unfoldable pub hour_line : List ℕ → HourLine
hour_line text =
    let d = number word_top text in
    hour_of d (choice failed_option true priced_option false (drop d.used text))

-- rules 15.2 and 15.3: the line of payout, with 16 prices, for a failed hour too
abbrev pub payout_read : ℕ → List ℕ → Reading
payout_read most text =
    let h = hour_line text in
    let list = drop h.used text in
    let prices = prices_said most list in
    record {
      whole = h.present && ends text h.used (prices_used most list) && eqb (length prices) zones;
      call = Payout h.day h.failed;
      words = [];
      prices = prices;
    }

-- ---- disburse D C ... C, recover D C ... C

-- rule 15.2: `disburse`
abbrev pub disburse_word : List ℕ
disburse_word = 100 ∷ 105 ∷ 115 ∷ 98 ∷ 117 ∷ 114 ∷ 115 ∷ 101 ∷ []

-- rule 15.2: `recover`
abbrev pub recover_word : List ℕ
recover_word = 114 ∷ 101 ∷ 99 ∷ 111 ∷ 118 ∷ 101 ∷ 114 ∷ []

-- rule 15.3: 128 numbers, four columns of 32
abbrev pub column_words : ℕ
column_words = 4 * bidder_limit

-- a disbursement or a recovery of a total
abbrev pub share_call : Bool → ℕ → Call
share_call true total = Disburse (cents total)
share_call false total = Recover (cents total)

-- rules 15.2 and 15.3: the line of disburse or of recover, with a total below 2^64 and the columns one after another
abbrev pub share_read : ℕ → Bool → List ℕ → Reading
share_read cap disburse text =
    let d = number wide_top text in
    let list = drop d.used text in
    let words = words_said cap list in
    with_words (present d && ends text d.used (words_used cap list) && eqb (length words) column_words) (share_call disburse d.value) words

-- ---- Any line. `cap` and `most` are how many words and how many prices there is room for

-- rule 15.2: the form of a call's line: its first word, and what the text after that says
pub record Form : Type 0 where
  pub word : List ℕ
  pub read : List ℕ → Reading

abbrev pub form : List ℕ → (List ℕ → Reading) → Form
form word read = record { word = word; read = read }

-- rule 15.2: the calls that have a list
abbrev pub list_forms : ℕ → ℕ → List Form
list_forms cap most =
    form open_word (open_read cap)
    ∷ form round_word (round_read cap)
    ∷ form payout_word (payout_read most)
    ∷ form disburse_word (share_read cap true)
    ∷ form recover_word (share_read cap false)
    ∷ []

-- rule 15.2: and those that have none
abbrev pub plain_forms : List Form
plain_forms =
    form deposit_word (account_read true)
    ∷ form withdraw_word (account_read false)
    ∷ form pay_word pay_read
    ∷ form default_word default_read
    ∷ form retire_word retire_read
    ∷ form rent_word rent_read
    ∷ []

-- rule 15.4: a line is read by the first form whose word it begins with; where there is none it says nothing
abbrev pub read_by : List Form → List ℕ → Reading
read_by [] line = plainly false Round
read_by (f ∷ fs) line = cond (starts_with f.word line) (f.read (drop (length f.word) line)) (read_by fs line)

-- rule 15.2: every line but that of a fresh book; `payout` is tried before `pay`, with which it begins
unfoldable pub line_read : ℕ → ℕ → List ℕ → Reading
line_read cap most line = read_by (list_forms cap most ++ plain_forms) line

-- what a line says
abbrev pub line_said : ℕ → ℕ → List ℕ → Option CallLine
line_said cap most line = said_of (line_read cap most line)

-- the words of its list, also where it says nothing
abbrev pub line_words : ℕ → ℕ → List ℕ → List ℕ
line_words cap most line = (line_read cap most line).words

-- and its prices
abbrev pub line_prices : ℕ → ℕ → List ℕ → List ℤ
line_prices cap most line = (line_read cap most line).prices
