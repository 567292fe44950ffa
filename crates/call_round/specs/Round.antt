-- The round, from the book, its entries and the words of the bid list: rules 7.12 to 7.19, with what the other crates state of it.
use Rattle.std.specs.Prelude.{true, not, List, [], ◌∷◌, ◌++◌, ℕ, ◌+◌, leb, length, Ok}
use Rattle.market.specs.Answers.{Row, ◌gives◌}
use Rattle.market.specs.Limits.{entry_limit, bid_list_words, bid_answer_words, path_answer_words, scratch_words}
use Rattle.market.specs.Sound.{is_idle, round_of, kind_of, period_of}
use Rattle.market.specs.declared.answer.Answer.TheVariants.{Bids}
use Rattle.market.specs.declared.answer.Outcome.{Outcome}
use Rattle.market.specs.declared.book.Book.{Book}
use Rattle.market.specs.declared.book.Entry.{Entry}
use Rattle.market.specs.declared.answer.Refusal.{Refusal}
use Rattle.register.specs.Refusals.{register_refusals}
use Rattle.round_bids.specs.Bids.{Bid, bids_of}
use Rattle.round_bids.specs.BidRefusals.{list_refusals}
use Rattle.round_admission.specs.Admission.{bidding_limits, marks_of}
use Rattle.round_award_rules.specs.Awards.{Award, awards_of}
use Rattle.round_awards.specs.Tables.{won_table, sold_table, price_table}
use Rattle.round_charges.specs.Charges.{charges_of, bid_rows}
use Rattle.round_entries.specs.Entries.{new_entries}
use Rattle.round_paths.specs.PathRows.{path_rows}
use Rattle.round_bidders.specs.Bidders.{billed_all}
use Rattle.round_paths.specs.Stages.{stage_after}
use Rattle.round_paths.specs.PathSales.{offered_by, sold_to}
use Rattle.call_rules.specs.Money.{nothing}
use Rattle.call_rules.specs.Rule.{Rule}
use Rattle.call_rules.specs.Rule.Register.{changed}
use Rattle.call_rules.specs.Rule.Front.{kept, put}

-- ---- What a round works out, from the book and its bids

-- rule 6.7: what the round offers of each path
abbrev pub offered_now : Book → List ℕ
offered_now b = offered_by (kind_of b.stage) (round_of b.stage) b

-- rule 7.7: which bids are admitted, and which are over
abbrev pub marks_now : Book → List Bid → List ℕ
marks_now b bids = marks_of (bidding_limits b) bids

-- rules 7.8 and 7.9: what the laminations of the admitted bids take
unfoldable pub awards_now : Book → List Bid → List Award
awards_now b bids = awards_of (offered_now b) bids (marks_now b bids)

-- rules 7.9 and 7.10: the MW of each bid, and the MW sold and the clearing price of each path
abbrev pub won_now : Book → List Bid → List ℕ
won_now b bids = won_table (awards_now b bids)

abbrev pub sold_now : Book → List Bid → List ℕ
sold_now b bids = sold_table (awards_now b bids)

abbrev pub prices_now : Book → List Bid → List ℕ
prices_now b bids = price_table (awards_now b bids)

-- rule 7.12: the entries of the winning bids
abbrev pub entries_now : Book → List Bid → List Entry
entries_now b bids = new_entries (period_of b.stage) (won_now b bids) bids

-- rule 7.17: the words of the bids
abbrev pub bid_answers_now : Book → List Bid → List ℕ
bid_answers_now b bids = bid_rows (marks_now b bids) (won_now b bids) (prices_now b bids) bids

-- rule 7.18: the words of the paths
abbrev pub path_answers_now : Book → List Bid → List ℕ
path_answers_now b bids = path_rows (offered_now b) (sold_now b bids) (prices_now b bids) b.path_count

-- ---- Refusals

-- rules 7.17 to 7.19 and rule 13.1: the list for bids, the list for paths or the scratch is too short
abbrev pub short_round_lists : List ℕ → List ℕ → List ℕ → List Row
short_round_lists answers results scratch =
    (not (leb bid_answer_words (length answers)) gives Refusal.ShortBuffer)
    ∷ (not (leb path_answer_words (length results)) gives Refusal.ShortBuffer)
    ∷ (not (leb scratch_words (length scratch)) gives Refusal.ShortBuffer)
    ∷ []

-- rules 13.20 and 13.22: no auction is open, or the bid list is too long
abbrev pub desk_refusals : Book → List ℕ → List Row
desk_refusals b bid_words =
    (is_idle b.stage gives Refusal.Stage) ∷ (not (leb (length bid_words) bid_list_words) gives Refusal.BidList) ∷ []

-- rule 13.23: the counted entries and the winning bids are too many for the register
abbrev pub room_refusals : Book → List Bid → List Row
room_refusals b bids = (not (leb (b.entries + length (entries_now b bids)) entry_limit) gives Refusal.RegisterFull) ∷ []

-- rule 13.101: a round's own rows in their order: 20, 22, bid after bid 14, 15 and 16, and 23 at the end
abbrev pub round_refusals : Book → List ℕ → List Row
round_refusals b bid_words =
    desk_refusals b bid_words ++ (list_refusals b.path_count bid_words ++ room_refusals b (bids_of bid_words))

-- those that need no award: 1, 2, 20, 22, and bid after bid 14, 15 and 16
abbrev pub early_refusals : Book → List ℕ → List ℕ → List ℕ → List ℕ → List ℕ → List Row
early_refusals b words bid_words answers results scratch =
    short_round_lists answers results scratch
    ++ (register_refusals b words ++ (desk_refusals b bid_words ++ list_refusals b.path_count bid_words))

-- ---- The round

-- rules 7.13, 7.15 and 7.16: the book after a round with these MW won, MW sold and clearing prices, and `entries` entries; the account stays
abbrev pub book_with : Book → List ℕ → List ℕ → List ℕ → List Bid → ℕ → Book
book_with b won sold prices bids entries =
    record {
      paths = sold_to b.paths sold b.path_count;
      path_count = b.path_count;
      bidders = billed_all b.bidders (charges_of won prices bids);
      account = b.account;
      entries = entries;
      stage = stage_after b.stage;
    }

-- rules 7.12 and 7.16: the book after the round
abbrev pub book_after : Book → List Bid → Book
book_after b bids =
    book_with b (won_now b bids) (sold_now b bids) (prices_now b bids) bids (b.entries + length (entries_now b bids))

-- rule 7.16: the answer is how many bids the list has
abbrev pub round_outcome : Book → List Bid → Outcome
round_outcome b bids = record { answer = Ok (Bids (length bids)); book = book_after b bids }

-- rules 7.12, 7.16, 7.17, 7.18 and 7.19: a round as a call: the new entries stand behind the others, words past the last bid and the last path
-- stay, the scratch may hold any words, and no money moves
unfoldable pub round : List ℕ → List ℕ → List ℕ → List ℕ → Rule
round bid_words answers results scratch =
    record {
      on =
          λ b es.
          let bids = bids_of bid_words in
          record {
            lent = short_round_lists answers results scratch;
            register = changed (es ++ entries_now b bids);
            own = round_refusals b bid_words;
            outcome = round_outcome b bids;
            fronts =
                record {
                  amounts = kept;
                  answers = put (bid_answers_now b bids);
                  results = put (path_answers_now b bids);
                  free = true;
                };
          };
      into = nothing;
      out = nothing;
    }
