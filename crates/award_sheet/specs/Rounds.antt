-- A round as it is written on the award sheet (rule 14.10): the words of its bids, and its answers for bids and for paths.
use Rattle.std.specs.Prelude.{List, ℕ, ◌≤◌, length}
use Rattle.market.specs.Limits.{bid_answer_words, path_answer_words}
use Rattle.round_bids.specs.BidRefusals.{BidList}
use Rattle.round_bids.specs.Bids.{bids_of}
use Rattle.award_sheet_round.specs.RoundLines.{RoundMade}

-- a round as the award sheet takes it
abbrev pub made : List ℕ → List ℕ → List ℕ → RoundMade
made bids answers results = record { bids = bids_of bids; answers = answers; results = results }

-- what holds of the lists of an answered round
pub record Answered (bids answers results : List ℕ) : Type 0 where
  pub list : BidList bids
  pub answers-long : bid_answer_words ≤ length answers
  pub results-long : path_answer_words ≤ length results
