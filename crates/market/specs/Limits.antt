-- The engine's constants, each named here once (rule 1.6): release, edition, and the limits of the rules named at them. `Engine` has the same as
-- associated constants. What only journals need is in the journal's crates.
use Rattle.std.specs.Prelude.{List, [], ◌∷◌, ℕ, ◌+◌, ◌*◌, ◌^◌}

-- rule 1.6: the release of the engine, and the edition of its rules
abbrev pub release : ℕ
release = 1

abbrev pub rule_edition : ℕ
rule_edition = 1

-- ---- The book and the register

-- rules 2.1 and 4.1: the most paths of a book
abbrev pub path_limit : ℕ
path_limit = 16

-- rules 2.2 and 4.4: the highest zone
abbrev pub zone_limit : ℕ
zone_limit = 15

-- rules 2.3 and 11.1: how many bidders there are, and how many participants
abbrev pub bidder_limit : ℕ
bidder_limit = 32

-- rules 3.1 and 3.2: the most entries that a book counts, and the words of one
abbrev pub entry_limit : ℕ
entry_limit = 1024

abbrev pub entry_words : ℕ
entry_words = 6

-- rule 3.1: the words of a register; more may be lent
abbrev pub register_words : ℕ
register_words = entry_limit * entry_words

-- rule 3.1: the two states of an entry
abbrev pub pending : ℕ
pending = 1

abbrev pub issued : ℕ
issued = 2

-- rule 4.6: the most that a bidder owes before round 2
abbrev pub round_two_owed_limit : ℕ
round_two_owed_limit = 2 * 10 ^ 13

-- rules 4.5, 5.2 and 10.1: the most of a bidder's cash and applied cash together, of its letter, and of one rent
abbrev pub money_limit : ℕ
money_limit = 10 ^ 12

-- rule 4.5: the most that a bidder owes
abbrev pub owed_limit : ℕ
owed_limit = 10 ^ 14

-- rules 2.3 and 4.5: the highest step
abbrev pub step_limit : ℕ
step_limit = 3

-- rule 4.7: how far the account may be from 0, above it or below
abbrev pub account_limit : ℕ
account_limit = 10 ^ 15

-- rules 4.4, 4.8, 6.2 and 7.2: the most MW of an offer, of an entry, of a quantity that open takes, and of a pair of a bid
abbrev pub quantity_limit : ℕ
quantity_limit = 9999

-- rules 1.2 and 4.2: the highest day number
abbrev pub day_limit : ℕ
day_limit = 65535

-- ---- The auction

-- rules 6.4 and 6.7: what an L auction divides the base by, and its first round the offer
abbrev pub quarters : ℕ
quarters = 4

-- rule 6.2: how many quantities open takes for a path
abbrev pub quantity_words : ℕ
quantity_words = 4

-- rule 7.2: the most pairs of a bid
abbrev pub lamination_limit : ℕ
lamination_limit = 20

-- rule 7.2: the highest price of a pair
abbrev pub price_limit : ℕ
price_limit = 10 ^ 8

-- rule 7.1: the words of a bid before its pairs, and the words of a pair
abbrev pub header_words : ℕ
header_words = 4

abbrev pub pair_words : ℕ
pair_words = 2

-- rule 7.6: the multipliers of steps 0, 1, 2 and 3
abbrev pub multipliers : List ℕ
multipliers = 10 ∷ 8 ∷ 5 ∷ 1 ∷ []

-- the most that a bidding limit can be, from the greatest multiplier, cash and letter
abbrev pub bidding_limit_top : ℕ
bidding_limit_top = 10 * (money_limit + money_limit)

-- rule 7.17: the mark of a bid that is admitted, and of one that is over
abbrev pub admitted : ℕ
admitted = 1

abbrev pub over : ℕ
over = 0

-- rules 7.1 and 13.22: the most words of a bid list
abbrev pub bid_list_words : ℕ
bid_list_words = 4096

-- the most bids that such a list can have, since a bid has at least a header and a pair
abbrev pub bid_limit : ℕ
bid_limit = 682

-- rule 7.17: the words of a bid in the list for bids, and the words of that list
abbrev pub bid_answer_size : ℕ
bid_answer_size = 4

abbrev pub bid_answer_words : ℕ
bid_answer_words = bid_limit * bid_answer_size

-- rule 7.18: the words of a path in the list for paths, and the words of that list
abbrev pub path_answer_size : ℕ
path_answer_size = 3

abbrev pub path_answer_words : ℕ
path_answer_words = path_limit * path_answer_size

-- rule 7.19: the words of the scratch
abbrev pub scratch_words : ℕ
scratch_words = 2048

-- ---- Settlement

-- rule 10.2: how many zone prices an hour has, and how far each may be from 0 in a priced one
abbrev pub zones : ℕ
zones = 16

abbrev pub zone_price_limit : ℕ
zone_price_limit = 10 ^ 6

-- rules 11.1 and 13.32: the most that is shared at once, and so the largest pool
abbrev pub pool_limit : ℕ
pool_limit = 10 ^ 11

-- rule 11.8: the least that a disbursement leaves in the account
abbrev pub reserve : ℕ
reserve = 2 * 10 ^ 9

-- rule 13.33: the most that the numbers of a column add up to
abbrev pub column_limit : ℕ
column_limit = 10 ^ 8

-- ---- Sheets

-- rule 14.1: the bytes of the longest sheet
abbrev pub sheet_bytes : ℕ
sheet_bytes = 16384

-- rules 13.1 and 14.11: the bytes of the output buffer of a sheet
abbrev pub award_sheet_bytes : ℕ
award_sheet_bytes = 65536

-- rule 14.2: the most digits of the longest numbers of a sheet, which are cash and letter
abbrev pub digit_limit : ℕ
digit_limit = 13
