-- What a round may rely on where nothing is refused before its awards are known. It states no rule: the functions of a round hand it to each other.
use Rattle.std.specs.Prelude.{◌≡◌, false, List, ℕ, ◌≤◌, length}
use Rattle.market.specs.Answers.{first_of, no_refusal}
use Rattle.market.specs.Books.{in_cents, in_megawatts}
use Rattle.market.specs.Limits.{bid_list_words, bid_answer_words, path_answer_words, scratch_words}
use Rattle.market.specs.Sound.{is_idle}
use Rattle.market.specs.declared.book.Book.{Book}
use Rattle.round_award_rules.specs.Awards.{Award, awards_of}
use Rattle.round_awards.specs.Tables.{won_table, sold_table, price_table}
use Rattle.round_awards.specs.declared.Awarded.{Awarded}
use Rattle.round_bids.specs.Bids.{bids_of}
use Rattle.round_bids.specs.BidRefusals.{list_refusals}
use Rattle.register.specs.Refusals.{LentRegister}
use Rattle.call_round.specs.Padded.{padded}
use Rattle.call_round.specs.Round.{offered_now, marks_now}
use Rattle.call_round.specs.declared.worked.Worked.{Worked}

-- what is lent is long enough, and the register is lent whole and sound
pub record AllLent (b : Book) (words answers results scratch : List ℕ) : Type 0 where
  pub answers-long : bid_answer_words ≤ length answers
  pub results-long : path_answer_words ≤ length results
  pub scratch-long : scratch_words ≤ length scratch
  pub register : LentRegister b words

-- nothing in the bid list is refused
pub record RightList (b : Book) (bid_words : List ℕ) : Type 0 where
  pub short : length bid_words ≤ bid_list_words
  pub clear : first_of (list_refusals b.path_count bid_words) ≡ no_refusal

-- all that, and the auction is open
pub record Early (b : Book) (words bid_words answers results scratch : List ℕ) : Type 0 where
  pub lent : AllLent b words answers results scratch
  pub is_open : is_idle b.stage ≡ false
  pub list : RightList b bid_words

-- the marks, the number of bids and the offers are worked out
pub record WorkedOut (b : Book) (bid_words : List ℕ) (w : Worked) : Type 0 where
  pub marks : w.marks ≡ padded (marks_now b (bids_of bid_words)) (length (bids_of bid_words))
  pub count : w.bids ≡ length (bids_of bid_words)
  pub offers : in_megawatts w.offered ≡ offered_now b

-- the awards are worked out, from these marks and offers
abbrev pub awards_from : Worked → List ℕ → List Award
awards_from w bid_words = awards_of (in_megawatts w.offered) (bids_of bid_words) w.marks

pub record AwardedOut (w : Worked) (bid_words : List ℕ) (a : Awarded) : Type 0 where
  pub won : in_megawatts a.won ≡ won_table (awards_from w bid_words)
  pub sold : in_megawatts a.sold ≡ sold_table (awards_from w bid_words)
  pub prices : in_cents a.prices ≡ price_table (awards_from w bid_words)
