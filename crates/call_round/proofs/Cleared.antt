-- What is known where a round's refusals do not hold.
use mathlib.Core.Path.{◌≡◌, refl}
use mathlib.Core.Bool.{Bool, true, false, cond}
use mathlib.Core.List.{List, [], ◌∷◌, ◌++◌}
use Prim.Native.Nat.{ℕ, zero, suc, ◌+◌, ◌≤◌}
use lib.Dec.{leb}
use lib.ListN.{length}
use borrow.Author.Tests.{not-false, leb-true}
use Rattle.market.proofs.Tables.{none-hold, neither-holds}
use Rattle.market.specs.Answers.{Row, first_of, no_refusal}
use Rattle.market.specs.Books.{every}
use Rattle.market.specs.Limits.{entry_limit, bid_list_words, bid_answer_words, path_answer_words, scratch_words}
use Rattle.market.specs.Sound.{is_idle}
use Rattle.market.specs.declared.book.Book.{Book}
use Rattle.round_bids.proofs.EncodingLaws.{bids-right}
use Rattle.round_bids.specs.Bids.{Bid, bids_of, bid_at, bid_end}
use Rattle.round_bids.specs.BidRefusals.{bid_refusals, refusals_from, list_refusals}
use Rattle.round_bids.specs.Encoding.{right_bids}
use Rattle.register.proofs.Cleared.{register-cleared}
use Rattle.register.specs.Refusals.{register_refusals}
use Rattle.call_rules.proofs.Decides.{own_row}
use Rattle.call_rules.specs.Steps.{verdict_of}
use Rattle.call_round.specs.Ready.{AllLent, Early}
use Rattle.call_round.specs.Round.{entries_now, short_round_lists, desk_refusals, room_refusals, round_refusals, early_refusals, round}

-- ---- The rows of a bid list

-- each gives 14, 15 or 16, and so not 2
bid-rows : (more paths : ℕ) (words : List ℕ) (at : ℕ) (earlier : List Bid) → every own_row (refusals_from more paths words at earlier) ≡ true
bid-rows zero paths words at earlier = refl
bid-rows (suc more) paths words at earlier =
    go (leb (length words) at) (refusals_from more paths words (bid_end words at) (bid_at words at ∷ earlier))
    (bid-rows more paths words (bid_end words at) (bid_at words at ∷ earlier))
  where
    go : (end : Bool) (rest : List Row) → every own_row rest ≡ true → every own_row (cond end [] (bid_refusals paths words at earlier ++ rest)) ≡ true
    go true rest h = refl
    go false rest h = h

pub list-rows : (paths : ℕ) (bid_words : List ℕ) → every own_row (list_refusals paths bid_words) ≡ true
list-rows paths bid_words = bid-rows (length bid_words) paths bid_words 0 []

-- ---- The parts of a round's table

pub lists-long :
    (answers results scratch : List ℕ) → first_of (short_round_lists answers results scratch) ≡ no_refusal
    → (bid_answer_words ≤ length answers) × (path_answer_words ≤ length results) × (scratch_words ≤ length scratch)
lists-long answers results scratch h =
    let none = none-hold (short_round_lists answers results scratch) h in (
      leb-true bid_answer_words (length answers) (not-false (leb bid_answer_words (length answers)) none.0),
      leb-true path_answer_words (length results) (not-false (leb path_answer_words (length results)) none.1.0),
      leb-true scratch_words (length scratch) (not-false (leb scratch_words (length scratch)) none.1.1.0),
    )

module _ (b : Book) (bid_words : List ℕ) where
  desk-cleared :
      (rest : List Row) → first_of (desk_refusals b bid_words ++ rest) ≡ no_refusal
      → (is_idle b.stage ≡ false) × (length bid_words ≤ bid_list_words) × (first_of rest ≡ no_refusal)
  desk-cleared rest h =
      let parts = neither-holds (desk_refusals b bid_words) rest h in
      let none = none-hold (desk_refusals b bid_words) parts.0 in
      (none.0, leb-true (length bid_words) bid_list_words (not-false (leb (length bid_words) bid_list_words) none.1.0), parts.1)

  winners-fit : first_of (room_refusals b (bids_of bid_words)) ≡ no_refusal → b.entries + length (entries_now b (bids_of bid_words)) ≤ entry_limit
  winners-fit h =
      let count = b.entries + length (entries_now b (bids_of bid_words)) in
      leb-true count entry_limit (not-false (leb count entry_limit) (none-hold (room_refusals b (bids_of bid_words)) h).0)

  -- a round's own rows: the auction is open, nothing in the bid list is refused, and the winners fit
  pub record Biddable : Type 0 where
    pub is_open : is_idle b.stage ≡ false
    pub short : length bid_words ≤ bid_list_words
    pub clear : first_of (list_refusals b.path_count bid_words) ≡ no_refusal
    pub room : b.entries + length (entries_now b (bids_of bid_words)) ≤ entry_limit

  pub biddable : first_of (round_refusals b bid_words) ≡ no_refusal → Biddable
  biddable h =
      let paths = b.path_count in
      let desk = desk-cleared (list_refusals paths bid_words ++ room_refusals b (bids_of bid_words)) h in
      let parts = neither-holds (list_refusals paths bid_words) (room_refusals b (bids_of bid_words)) desk.2 in
      record { is_open = desk.0; short = desk.1; clear = parts.0; room = winners-fit parts.1 }

-- ---- The table

-- nothing is refused early, the bids are right, and the winners fit
pub record RoundOpen (b : Book) (words bid_words answers results scratch : List ℕ) : Type 0 where
  pub early : Early b words bid_words answers results scratch
  pub right : right_bids b.path_count (bids_of bid_words) ≡ true
  pub room : b.entries + length (entries_now b (bids_of bid_words)) ≤ entry_limit

module _ (b : Book) (words bid_words answers results scratch : List ℕ) where
  pub lent-cleared : first_of (short_round_lists answers results scratch ++ register_refusals b words) ≡ no_refusal → AllLent b words answers results scratch
  lent-cleared h =
      let parts = neither-holds (short_round_lists answers results scratch) (register_refusals b words) h in
      let long = lists-long answers results scratch parts.0 in
      record {
        answers-long = long.0;
        results-long = long.1;
        scratch-long = long.2;
        register = register-cleared b words parts.1;
      }

  pub early-cleared : first_of (early_refusals b words bid_words answers results scratch) ≡ no_refusal → Early b words bid_words answers results scratch
  early-cleared h =
      let rows = list_refusals b.path_count bid_words in
      let parts = neither-holds (short_round_lists answers results scratch ++ register_refusals b words) (desk_refusals b bid_words ++ rows) h in
      let desk = desk-cleared b bid_words rows parts.1 in
      record { lent = lent-cleared parts.0; is_open = desk.0; list = record { short = desk.1; clear = desk.2 } }

  pub round-cleared : verdict_of (round bid_words answers results scratch) b words ≡ no_refusal → RoundOpen b words bid_words answers results scratch
  unfolding verdict_of round
  round-cleared h =
      let parts = neither-holds (early_refusals b words bid_words answers results scratch) (room_refusals b (bids_of bid_words)) h in
      let early = early-cleared parts.0 in
      record {
        early = early;
        right = bids-right b.path_count bid_words early.list.clear;
        room = winners-fit b bid_words parts.1;
      }
