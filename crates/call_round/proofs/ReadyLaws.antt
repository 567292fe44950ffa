-- What follows where nothing refuses a round before its awards.
use mathlib.Core.Path.{◌≡◌, ◌∙◌, ap, ap₂}
use mathlib.Core.Bool.{true}
use mathlib.Core.List.{List}
use Prim.Native.Nat.{ℕ, ◌≤◌}
use lib.ListN.{length, replicate}
use Rattle.market.proofs.SoundLaws.{sound-parts, count-within}
use Rattle.market.specs.Answers.{first_of, no_refusal}
use Rattle.market.specs.Limits.{path_limit, bid_limit, bidder_limit, bid_list_words}
use Rattle.market.specs.Sound.{sound_book}
use Rattle.market.specs.declared.book.Book.{Book}
use Rattle.round_bids.proofs.EncodingLaws.{bids-right}
use Rattle.round_bids.proofs.Walk.{list-sound, bids-few}
use Rattle.round_bids.specs.BidRefusals.{list_refusals, BidList}
use Rattle.round_bids.specs.Bids.{bids_of}
use Rattle.round_bids.specs.Encoding.{right_bids}
use Rattle.round_admission.proofs.MarkLaws.{marks-length}
use Rattle.round_admission.specs.Admission.{bidding_limits}
use Rattle.round_award_rules.specs.Awards.{awards_of}
use Rattle.call_round.specs.Padded.{padded}
use Rattle.call_round.specs.Ready.{RightList, Early, WorkedOut, awards_from}
use Rattle.call_round.specs.Round.{offered_now, marks_now, awards_now}
use Rattle.call_round.specs.declared.worked.Worked.{Worked}
use Rattle.call_round.proofs.RoundLaws.{padded-at, padded-length, awards-same}

few-paths : (b : Book) → sound_book b ≡ true → b.path_count ≤ path_limit
few-paths b sound = count-within b.path_count (sound-parts b sound).path-count

-- a bid list that no row refuses, for a sound book
pub bids-listed : (b : Book) (bid_words : List ℕ) → sound_book b ≡ true → length bid_words ≤ bid_list_words → first_of (list_refusals b.path_count bid_words) ≡ no_refusal → BidList bid_words
bids-listed b bid_words sound short clear =
    record { short = short; sound = list-sound b.path_count path_limit bid_words (few-paths b sound) clear }

-- a sound book, and a bid list in which nothing is refused
module _ (b : Book) (bid_words : List ℕ) (ok : sound_book b ≡ true) (list : RightList b bid_words) where
  pub paths-few : b.path_count ≤ path_limit
  paths-few = few-paths b ok

  pub right : right_bids b.path_count (bids_of bid_words) ≡ true
  right = bids-right b.path_count bid_words list.clear

  pub right-list : BidList bid_words
  right-list = bids-listed b bid_words ok list.short list.clear

  pub few : length (bids_of bid_words) ≤ bid_limit
  few = bids-few path_limit bid_words right-list.sound list.short

  module _ (w : Worked) (out : WorkedOut b bid_words w) where
    pub marks-long : length w.marks ≡ bid_limit
    marks-long =
        ap (λ (l : List ℕ). length l) out.marks
        ∙ padded-length (marks_now b (bids_of bid_words)) (length (bids_of bid_words))
        (marks-length (bidding_limits b) (replicate bidder_limit 0) (bids_of bid_words)) few

    pub awards-are : awards_from w bid_words ≡ awards_now b (bids_of bid_words)
    unfolding awards_now
    awards-are =
        ap₂ (λ (o m : List ℕ). awards_of o (bids_of bid_words) m) out.offers out.marks
        ∙ awards-same (padded (marks_now b (bids_of bid_words)) (length (bids_of bid_words))) (marks_now b (bids_of bid_words))
        (padded-at (marks_now b (bids_of bid_words)) (length (bids_of bid_words))) (offered_now b) (bids_of bid_words)

module _ (b : Book) (words bid_words answers results scratch : List ℕ) (early : Early b words bid_words answers results scratch) where
  pub sound : sound_book b ≡ true
  sound = early.lent.register.sound

  pub listed : BidList bid_words
  listed = right-list b bid_words sound early.list
