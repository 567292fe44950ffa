-- A round on the award sheet: its bids, its paths and its awards, each after a line with their count (rules 14.9 and 14.10).
use Rattle.std.specs.Prelude.{cond, List, [], ◌∷◌, ◌++◌, ℕ, zero, suc, ◌+◌, eqb, ltb, length}
use Rattle.market.specs.Limits.{admitted}
use Rattle.text_numbers.specs.Decimal.{decimal}
use Rattle.text_fields.specs.Fields.{line, numbers_line, count_line}
use Rattle.sheet_lines.specs.Lines.{part_word}
use Rattle.sheet_lines.specs.declared.part.Part.TheVariants.{Paths, Bids}
use Rattle.round_bids.specs.Bids.{Bid}
use Rattle.call_round.specs.Answers.{mark_in, value_in, won_in, charge_in, offered_in, sold_in, price_in}
use Rattle.award_sheet_round.specs.Phrases as words

-- ---- A round, of these bids and with these answers

-- rule 14.10: a bid that is over has `over` for `admitted`
abbrev pub mark_word : ℕ → List ℕ
mark_word mark = cond (eqb mark admitted) words.admitted_word words.over_word

-- rules 14.9 and 14.10: `PLACE BIDDER PATH admitted BIDVALUE`, with the places counted from 1
abbrev pub award_bid_line : List ℕ → ℕ → Bid → List ℕ
award_bid_line answers bid b =
    line
    (decimal (bid + 1)
    ∷ decimal b.bidder
    ∷ decimal b.path
    ∷ mark_word (mark_in answers bid)
    ∷ decimal (value_in answers bid)
    ∷ [])

abbrev pub award_bid_lines : List ℕ → ℕ → List Bid → List ℕ
award_bid_lines answers bid [] = []
award_bid_lines answers bid (b ∷ bs) = award_bid_line answers bid b ++ award_bid_lines answers (bid + 1) bs

-- rule 14.10: a path without clearing price has `-` for it
abbrev pub price_field : ℕ → List ℕ
price_field price = cond (eqb price 0) words.no_price_mark (decimal price)

-- rules 14.9 and 14.10: `PATH OFFERED SOLD PRICE`, of this round
abbrev pub award_path_line : List ℕ → ℕ → List ℕ
award_path_line results path =
    line
    (decimal path ∷ decimal (offered_in results path) ∷ decimal (sold_in results path) ∷ price_field (price_in results path) ∷ [])

-- the lines of the first paths, as many as the second argument says
abbrev pub award_path_lines : List ℕ → ℕ → List ℕ
award_path_lines results zero = []
award_path_lines results (suc n) = award_path_lines results n ++ award_path_line results n

-- rule 14.9: `BIDDER PATH MW CHARGE`
abbrev pub award_line : List ℕ → ℕ → Bid → List ℕ
award_line answers bid b = numbers_line (b.bidder ∷ b.path ∷ won_in answers bid ∷ charge_in answers bid ∷ [])

-- rule 14.10: the winning bids have such a line, in the order of the list
abbrev pub award_part : List ℕ → ℕ → Bid → List ℕ
award_part answers bid b = cond (ltb 0 (won_in answers bid)) (award_line answers bid b) []

abbrev pub award_lines : List ℕ → ℕ → List Bid → List ℕ
award_lines answers bid [] = []
award_lines answers bid (b ∷ bs) = award_part answers bid b ++ award_lines answers (bid + 1) bs

-- rule 14.10: the count of awards is the number of their lines
abbrev pub winners : List ℕ → ℕ → List Bid → ℕ
winners answers bid [] = 0
winners answers bid (b ∷ bs) = cond (ltb 0 (won_in answers bid)) 1 0 + winners answers (bid + 1) bs

-- a round as it was answered: its bids, and the lists for bids and for paths
pub record RoundMade : Type 0 where
  pub bids : List Bid
  pub answers : List ℕ
  pub results : List ℕ

-- rules 14.9 and 14.10: bids, paths and awards, each after a line with the count of their lines
abbrev pub bids_part : List ℕ → List Bid → List ℕ
bids_part answers bids = count_line (part_word Bids) (length bids) ++ award_bid_lines answers 0 bids

abbrev pub paths_part : List ℕ → ℕ → List ℕ
paths_part results paths = count_line (part_word Paths) paths ++ award_path_lines results paths

abbrev pub awards_part : List ℕ → List Bid → List ℕ
awards_part answers bids = count_line words.awards_word (winners answers 0 bids) ++ award_lines answers 0 bids

unfoldable pub round_text : ℕ → RoundMade → List ℕ
round_text paths r = bids_part r.answers r.bids ++ paths_part r.results paths ++ awards_part r.answers r.bids
