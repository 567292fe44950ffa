-- Lines written and winners counted bid by bid, along a walk over a list of words.
use mathlib.Core.Path.{◌≡◌, refl, sym, ◌∙◌, ap, subst}
use mathlib.Core.Bool.{true, cond}
use mathlib.Core.List.{List, [], ◌∷◌, ◌++◌}
use Prim.Native.Nat.{ℕ, ◌+◌, ◌≤◌, ◌<◌}
use lib.Dec.{ltb}
use lib.ListN.{length}
use Rattle.std.specs.List.{count_by, range_with_len}
use Rattle.std.proofs.lemmas.List.Sums.{sum_by-cons}
use Rattle.market.specs.Limits.{path_limit}
use Rattle.text_numbers.specs.Put.{Put}
use Rattle.round_bids.proofs.BidLaws.{fits-list}
use Rattle.round_bids.proofs.Walk.{Walk, left, bid-right, walk_start, left-start, walk-on, walk-done, left-splits}
use Rattle.round_bids.specs.BidRefusals.{sound_list}
use Rattle.round_bids.specs.Bids.{Bid, bid_at, bid_end, bids_of}
use Rattle.call_round.specs.Answers.{won_in}
use Rattle.text_writing.proofs.PutLaws.{WrittenTo, written_none, written-fits, written_on, written-done}
use Rattle.award_sheet_round.specs.RoundLines.{winners}

-- the list has all words of the bid here
pub bid-whole : (words : List ℕ) (k place : ℕ) → Walk path_limit words k place → place < length words → bid_end words place ≤ length words
bid-whole words k place walk inside = fits-list path_limit words place (bid-right path_limit words k place walk inside)

-- the lines of the first `k` bids are written, and those of the rest are to come
pub record LinesTo (lines : ℕ → List Bid → List ℕ) (words before : List ℕ) (at end : ℕ) (out : List ℕ) (k place : ℕ) : Type 0 where
  pub walk : Walk path_limit words k place
  pub to : WrittenTo before at (lines 0 (bids_of words)) (lines k (left walk)) end out

pub lines_start :
    (lines :
    ℕ → List Bid → List ℕ) (words before : List ℕ) (at : ℕ) → sound_list path_limit words ≡ true → at + length (lines 0 (bids_of words)) ≤ length before
    → LinesTo lines words before at at before 0 0
lines_start lines words before at ok room =
    record {
      walk = walk_start path_limit words ok;
      to =
          subst (λ (l : List Bid). WrittenTo before at (lines 0 (bids_of words)) (lines 0 l) at before) (sym (left-start path_limit words ok))
          (written_none before at (lines 0 (bids_of words)) room);
    }

-- no bid is left
pub lines-done :
    {lines :
    ℕ → List Bid → List ℕ} {words before : List ℕ} {at k place end : ℕ} {out : List ℕ} → LinesTo lines words before at end out k place → lines k [] ≡ [] → length words ≤ place
    → Put before at (lines 0 (bids_of words)) out end
lines-done {lines} {words} {before} {at} {k} {place} s none past =
    written-done s.to (ap (lines k) (walk-done path_limit words k place s.walk past) ∙ none)

-- a bid's own lines, and those of the bids after it
module _ (part : ℕ → Bid → List ℕ) (lines : ℕ → List Bid → List ℕ) (more : (k : ℕ) (b : Bid) (bs : List Bid) → lines k (b ∷ bs) ≡ part k b ++ lines (k + 1) bs) {words before : List ℕ}
    {at k place end : ℕ} {out : List ℕ} (s : LinesTo lines words before at end out k place) (inside : place < length words) where
  after : Walk path_limit words (k + 1) (bid_end words place)
  after = walk-on path_limit words k place s.walk inside

  splits : lines k (left s.walk) ≡ part k (bid_at words place) ++ lines (k + 1) (left after)
  unfolding after
  splits =
      ap (lines k) (left-splits path_limit words k place s.walk inside)
      ∙ more k (bid_at words place) (left (walk-on path_limit words k place s.walk inside))

  -- there is room for the lines of the bid here
  pub lines_fit : end + length (part k (bid_at words place)) ≤ length out
  lines_fit = written-fits s.to (part k (bid_at words place)) (lines (k + 1) (left after)) splits

  -- and they are written
  pub lines-on :
      {r : ℕ} {next : List ℕ} → Put out end (part k (bid_at words place)) next r
      → LinesTo lines words before at r next (k + 1) (bid_end words place)
  lines-on put =
      record {
        walk = after;
        to = written_on s.to (part k (bid_at words place)) (lines (k + 1) (left after)) splits put;
      }

-- winners counted by the numbers of the bids
pub winners-counted : (answers : List ℕ) (bids : List Bid) (k : ℕ) → winners answers k bids ≡ count_by (λ b. ltb 0 (won_in answers b)) (range_with_len k (length bids))
winners-counted answers [] k = refl
winners-counted answers (b ∷ bs) k =
    ap (λ (n : ℕ). cond (ltb 0 (won_in answers k)) 1 0 + n) (winners-counted answers bs (k + 1))
    ∙ sym (sum_by-cons (λ (n : ℕ). cond (ltb 0 (won_in answers n)) 1 0) k (range_with_len (k + 1) (length bs)))
