-- The marks of bids given one by one, as `marks_of` does.
use mathlib.Core.Path.{◌≡◌, refl, sym, ◌∙◌, ap, ap₂, subst}
use mathlib.Core.Bool.{Bool, true, false, cond}
use mathlib.Core.List.{List, [], ◌∷◌, ◌++◌, append_assoc, append-nil}
use Prim.Native.Nat.{ℕ, suc, ◌+◌, ◌-◌, ◌≤◌, ◌<◌}
use native.Mathlib.Omega.{arith}
use lib.Dec.{leb}
use lib.ListN.{length, get_or, set, replicate, length-append, length-set}
use lib.Seq.{set-get_or}
use borrow.Author.Tests.{le-leb, leb-true}
use Rattle.market.proofs.Every.{every-at-any, every_set}
use Rattle.market.proofs.Filled.{fill-snoc}
use Rattle.market.specs.Books.{every}
use Rattle.market.specs.Limits.{bidder_limit, bid_limit, bid_list_words, bidding_limit_top, path_limit, admitted, over}
use Rattle.round_bids.proofs.Walk.{Walk, left, walk_start, left-start, walk-on, walk-done, left-splits, bid-below, all-counted}
use Rattle.round_bids.specs.BidRefusals.{sound_list}
use Rattle.round_bids.specs.Bids.{Bid, bid_at, bid_end, bids_of, bid_value}
use Rattle.round_admission.specs.Admission.{within_top, admits, mark_of, used_after, marks_from, marks_of}

-- a mark for each bid
pub marks-length : (limits used : List ℕ) (bids : List Bid) → length (marks_from limits used bids) ≡ length bids
marks-length limits used [] = refl
marks-length limits used (b ∷ bs) = ap suc (marks-length limits (used_after limits used b) bs)

-- the first `k` bids have their marks, `used` has the values admitted of them, and the rest of the bids get theirs later
pub record MarkedTo (words limits marks used : List ℕ) (k at : ℕ) : Type 0 where
  pub walk : Walk path_limit words k at
  pub front : List ℕ
  pub long : length front ≡ k
  pub stored : marks ≡ front ++ replicate (bid_limit - k) 0
  pub rest : marks_of limits (bids_of words) ≡ front ++ marks_from limits used (left walk)
  pub slots : length used ≡ bidder_limit
  pub below : every within_top used ≡ true

pub none-marked : (words limits : List ℕ) → sound_list path_limit words ≡ true → MarkedTo words limits (replicate bid_limit 0) (replicate bidder_limit 0) 0 0
none-marked words limits ok =
    record {
      walk = walk_start path_limit words ok;
      front = [];
      long = refl;
      stored = refl;
      rest = ap (marks_from limits (replicate bidder_limit 0)) (sym (left-start path_limit words ok));
      slots = refl;
      below = refl;
    }

-- storing only if the bid is admitted is the same as storing the new amount or, if not, the old one
used-by : (t : Bool) (used : List ℕ) (i total : ℕ) → cond t (set used i total) used ≡ set used i (cond t total (get_or used i 0))
used-by true used i total = refl
used-by false used i total = sym (set-get_or used i 0)

module _ {words limits marks used : List ℕ} {k at : ℕ} (m : MarkedTo words limits marks used k at) where
  -- every bid has its mark
  pub all-marked : length words ≤ at → marks ≡ marks_of limits (bids_of words) ++ replicate (bid_limit - length (bids_of words)) 0
  all-marked end =
      let none = walk-done path_limit words k at m.walk end in
      let whole : marks_of limits (bids_of words) ≡ m.front =
      m.rest ∙ ap (λ (l : List Bid). m.front ++ marks_from limits used l) none ∙ append-nil m.front
      in
      m.stored ∙ ap₂ (λ (l : List ℕ) (n : ℕ). l ++ replicate (bid_limit - n) 0) (sym whole) (all-counted path_limit words k at m.walk end)

  module _ (inside : at < length words) (short : length words ≤ bid_list_words) (tops : every within_top limits ≡ true) where
    abbrev bid : Bid
    bid = bid_at words at

    abbrev within : ℕ → ℕ → Bool
    within bidder value = leb (get_or used bidder 0 + value) (get_or limits bidder 0)

    abbrev marks-with : ℕ → ℕ → List ℕ
    marks-with bidder value = set marks k (cond (within bidder value) admitted over)

    abbrev used-with : ℕ → ℕ → List ℕ
    used-with bidder value = set used bidder (cond (within bidder value) (get_or used bidder 0 + value) (get_or used bidder 0))

    -- what is admitted stays within the limits
    bounded : (t : Bool) → within bid.bidder (bid_value bid) ≡ t → within_top (cond t (get_or used bid.bidder 0 + bid_value bid) (get_or used bid.bidder 0)) ≡ true
    bounded true e =
        let top = leb-true (get_or limits bid.bidder 0) bidding_limit_top (every-at-any within_top limits bid.bidder 0 tops refl) in
        le-leb (get_or used bid.bidder 0 + bid_value bid) bidding_limit_top
        (omega (arith, top, leb-true (get_or used bid.bidder 0 + bid_value bid) (get_or limits bid.bidder 0) e))
    bounded false e = every-at-any within_top used bid.bidder 0 m.below refl

    exactly : MarkedTo words limits (marks-with bid.bidder (bid_value bid)) (used-with bid.bidder (bid_value bid)) (k + 1) (bid_end words at)
    exactly =
        record {
          walk = walk-on path_limit words k at m.walk inside;
          front = m.front ++ (mark_of limits used bid ∷ []);
          long = length-append m.front (mark_of limits used bid ∷ []) ∙ (let e : length m.front + 1 ≡ k + 1 = omega (arith, m.long) in e);
          stored = ap (λ (l : List ℕ). set l k (mark_of limits used bid)) m.stored
              ∙ fill-snoc m.front bid_limit k 0 (mark_of limits used bid) m.long (bid-below path_limit words k at m.walk inside short);
          rest = m.rest
              ∙ ap (λ (l : List Bid). m.front ++ marks_from limits used l) (left-splits path_limit words k at m.walk inside)
              ∙ sym (append_assoc m.front (mark_of limits used bid ∷ []) (marks_from limits (used_after limits used bid) (left (walk-on path_limit words k at m.walk inside))))
              ∙ ap (λ (l : List ℕ). (m.front ++ (mark_of limits used bid ∷ [])) ++ marks_from limits l (left (walk-on path_limit words k at m.walk inside)))
              (used-by (admits limits used bid) used bid.bidder (get_or used bid.bidder 0 + bid_value bid));
          slots = length-set used bid.bidder _ ∙ m.slots;
          below = every_set within_top used bid.bidder _ m.below (bounded (within bid.bidder (bid_value bid)) refl);
        }

    -- the bid at the place has its mark
    pub one-marked : (bidder value : ℕ) → bidder ≡ bid.bidder → value ≡ bid_value bid → MarkedTo words limits (marks-with bidder value) (used-with bidder value) (k + 1) (bid_end words at)
    one-marked bidder value eb ev =
        subst (λ (b : ℕ). MarkedTo words limits (marks-with b value) (used-with b value) (k + 1) (bid_end words at)) (sym eb)
        (subst (λ (v : ℕ). MarkedTo words limits (marks-with bid.bidder v) (used-with bid.bidder v) (k + 1) (bid_end words at)) (sym ev) exactly)

    -- and the values admitted so far are within the top limit
    pub total-within : (bidder : ℕ) → get_or used bidder 0 ≤ bidding_limit_top
    total-within bidder = leb-true (get_or used bidder 0) bidding_limit_top (every-at-any within_top used bidder 0 m.below refl)
