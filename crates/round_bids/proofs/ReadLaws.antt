-- A list of bids tested bid by bid, as `refusal` does.
use mathlib.Core.Path.{◌≡◌, refl, sym, ◌∙◌, ap, ap₂}
use mathlib.Core.Bool.{Bool, true, false, cond, not, ◌&&◌, ◌||◌}
use mathlib.Core.List.{List, [], ◌∷◌, ◌++◌}
use Prim.Native.Nat.{ℕ, zero, suc, ◌+◌, ◌*◌, ◌≤◌, ◌<◌}
use native.Mathlib.Omega.{arith}
use lib.Dec.{ltb, eqb}
use lib.ListN.{length, get_or, set, replicate, length-set, get_or-replicate}
use lib.Seq.{get_or-set_same, get_or-set_other}
use borrow.Author.Tests.{le-leb, lt-leb, lt-ltb, le-ltb, eqb-true, eqb-false}
use Rattle.std.specs.Prelude.{Err}
use Rattle.market.specs.Answers.{first_of, no_refusal, Verdict}
use Rattle.market.specs.Limits.{bidder_limit, path_limit}
use Rattle.market.specs.declared.answer.Refusal.{Refusal}
use Rattle.round_bids.specs.Bids.{Bid, header_at, bid_at, bid_end}
use Rattle.round_bids.specs.BidRefusals.{has_bid, stamp_of, bid_refusals, refusals_from, list_refusals, sound_bid_at}
use Rattle.round_bids.specs.declared.Header.{Header}
use Rattle.round_bids.proofs.BidLaws.{header-sound, header-bounds, HeaderBounds}

-- the number of marks, one for each bidder and path
abbrev pub pairs : ℕ
pairs = bidder_limit * path_limit

-- the bids before a place have been tested: what is left decides, `stamp` is the latest stamp, and each bidder and path that has
-- a bid is marked
pub record TestedBids (paths : ℕ) (words : List ℕ) (at stamp : ℕ) (seen : List Bool) : Type 0 where
  pub more : ℕ
  pub earlier : List Bid
  pub enough : length words ≤ more + at
  pub decides : first_of (list_refusals paths words) ≡ first_of (refusals_from more paths words at earlier)
  pub latest : stamp_of earlier ≡ stamp
  pub marks : length seen ≡ pairs
  pub marked : (bidder path : ℕ) → bidder < bidder_limit → path < path_limit → get_or seen (bidder * path_limit + path) false ≡ has_bid bidder path earlier

pub none-tested : (paths : ℕ) (words : List ℕ) → TestedBids paths words 0 0 (replicate pairs false)
none-tested paths words =
    record {
      more = length words;
      earlier = [];
      enough = omega arith;
      decides = refl;
      latest = refl;
      marks = refl;
      marked = λ bidder path b p. get_or-replicate pairs (bidder * path_limit + path) false false (omega arith);
    }

-- the rows of the bid at a place, and then those of the bids after it
first-of-bid :
    (paths :
    ℕ) (words : List ℕ) (at more : ℕ) (earlier : List Bid) → at < length words → length words ≤ more + at
    → (n : ℕ)
    × ((suc n ≡ more) × (first_of (refusals_from more paths words at earlier)
    ≡ first_of (bid_refusals paths words at earlier ++ refusals_from n paths words (bid_end words at) (bid_at words at ∷ earlier))))
first-of-bid paths words at zero earlier below enough = absurd (let no : ⊥ = omega arith in no)
first-of-bid paths words at (suc n) earlier below enough = (
  n,
  (
    refl,
    ap (λ (t : Bool). first_of (cond t [] (bid_refusals paths words at earlier ++ refusals_from n paths words (bid_end words at) (bid_at words at
        ∷ earlier)))) (lt-leb (length words) at below),
  ),
)

-- marking one bidder and path
set-mark :
    (seen :
    List Bool) (b p bidder path : ℕ) (had : Bool) → length seen ≡ pairs → b < bidder_limit → p < path_limit → path < path_limit → get_or seen (bidder * path_limit + path) false ≡ had
    → get_or (set seen (b * path_limit + p) true) (bidder * path_limit + path) false ≡ ((eqb b bidder && eqb p path) || had)
set-mark seen b p bidder path had long bl pl ql was = go (eqb b bidder) (eqb p path) refl refl
  where
    other : (bidder * path_limit + path ≡ b * path_limit + p → ⊥) → get_or (set seen (b * path_limit + p) true) (bidder * path_limit + path) false ≡ had
    other ne = get_or-set_other seen (b * path_limit + p) (bidder * path_limit + path) true false ne ∙ was

    go : (s t : Bool) → eqb b bidder ≡ s → eqb p path ≡ t → get_or (set seen (b * path_limit + p) true) (bidder * path_limit + path) false ≡ ((s && t) || had)
    go true true x y =
        let e : bidder * path_limit + path ≡ b * path_limit + p = omega (arith, eqb-true b bidder x, eqb-true p path y) in
        ap (λ (i : ℕ). get_or (set seen (b * path_limit + p) true) i false) e
        ∙ get_or-set_same seen (b * path_limit + p) true false (omega arith)
    go true false x y = other (λ e. eqb-false p path y (omega (arith, eqb-true b bidder x)))
    go false t x y = other (λ e. eqb-false b bidder x (omega arith))

module _ (paths : ℕ) (words : List ℕ) (at stamp : ℕ) (seen : List Bool) (tested : TestedBids paths words at stamp seen) where
  -- every bid has been tested
  pub all_tested : length words ≤ at → first_of (list_refusals paths words) ≡ no_refusal
  all_tested end = tested.decides ∙ go tested.more
    where
      go : (more : ℕ) → first_of (refusals_from more paths words at tested.earlier) ≡ no_refusal
      go zero = refl
      go (suc n) =
          ap (λ (t : Bool). first_of (cond t [] (bid_refusals paths words at tested.earlier ++ refusals_from n paths words (bid_end words at) (bid_at words at ∷ tested.earlier))))
          (le-leb (length words) at end)

  module _ (below : at < length words) where
    abbrev here :
        (n :
        ℕ)
        ×
        ((suc n ≡ tested.more)
        ×
        (first_of (refusals_from tested.more paths words at tested.earlier)
        ≡ first_of (bid_refusals paths words at tested.earlier ++ refusals_from n paths words (bid_end words at) (bid_at words at ∷ tested.earlier))))
    here = first-of-bid paths words at tested.more tested.earlier below tested.enough

    abbrev after : Verdict
    after = first_of (refusals_from here.0 paths words (bid_end words at) (bid_at words at ∷ tested.earlier))

    abbrev rows : Bool → Bool → Bool → Verdict
    rows good second falls = cond (not good) (Err Refusal.Bid) (cond second (Err Refusal.SecondBid) (cond falls (Err Refusal.Stamp) after))

    splits :
        first_of (list_refusals paths words)
        ≡ rows (sound_bid_at paths words at) (has_bid (bid_at words at).bidder (bid_at words at).path tested.earlier) (ltb (bid_at words at).stamp (stamp_of tested.earlier))
    splits = tested.decides ∙ here.1.1

    -- the bid here is bad
    pub bad-bid : sound_bid_at paths words at ≡ false → first_of (list_refusals paths words) ≡ Err Refusal.Bid
    bad-bid bad =
        splits
        ∙ ap (λ (t : Bool). rows t (has_bid (bid_at words at).bidder (bid_at words at).path tested.earlier) (ltb (bid_at words at).stamp (stamp_of tested.earlier))) bad

    module _ (within : paths ≤ path_limit) (h : Header) (is : h ≡ header_at words at) (pair : ℕ) (of : pair ≡ h.bidder * path_limit + h.path) (good : sound_bid_at paths words at ≡ true) where
      abbrev bounds : HeaderBounds paths h
      bounds = header-bounds paths h (header-sound paths words at h is good)

      pub pair-below : pair < pairs
      pair-below = omega (arith, bounds.bidder-below, bounds.path-below)

      has : has_bid (bid_at words at).bidder (bid_at words at).path tested.earlier ≡ get_or seen pair false
      has =
          ap (λ (k : Header). has_bid k.bidder k.path tested.earlier) (sym is)
          ∙ sym (tested.marked h.bidder h.path bounds.bidder-below (omega (arith, bounds.path-below)))
          ∙ ap (λ (i : ℕ). get_or seen i false) (sym of)

      falls : ltb (bid_at words at).stamp (stamp_of tested.earlier) ≡ ltb h.stamp stamp
      falls =
          ap (λ (k : Header). ltb k.stamp (stamp_of tested.earlier)) (sym is)
          ∙ ap (ltb h.stamp) tested.latest

      sound-here : first_of (list_refusals paths words) ≡ rows true (get_or seen pair false) (ltb h.stamp stamp)
      sound-here =
          splits
          ∙ ap (λ (t : Bool). rows t (has_bid (bid_at words at).bidder (bid_at words at).path tested.earlier) (ltb (bid_at words at).stamp (stamp_of tested.earlier))) good
          ∙ ap₂ (rows true) has falls

      -- it is the second for its bidder and path
      pub second-bid : get_or seen pair false ≡ true → first_of (list_refusals paths words) ≡ Err Refusal.SecondBid
      second-bid second = sound-here ∙ ap (λ (t : Bool). rows true t (ltb h.stamp stamp)) second

      module _ (first : get_or seen pair false ≡ false) where
        -- its stamp falls
        pub stamp-falls : h.stamp < stamp → first_of (list_refusals paths words) ≡ Err Refusal.Stamp
        stamp-falls fall = sound-here ∙ ap₂ (rows true) first (lt-ltb h.stamp stamp fall)

        -- it is right, and now the bids up to its end are tested
        pub bid-tested : stamp ≤ h.stamp → TestedBids paths words (bid_end words at) h.stamp (set seen pair true)
        bid-tested rises =
            record {
              more = here.0;
              earlier = bid_at words at ∷ tested.earlier;
              enough = omega (arith, here.1.0, tested.enough);
              decides = sound-here ∙ ap₂ (rows true) first (le-ltb h.stamp stamp rises);
              latest = ap (λ (k : Header). k.stamp) (sym is);
              marks = length-set seen pair true ∙ tested.marks;
              marked = λ bidder path b p.
                  ap (λ (i : ℕ). get_or (set seen i true) (bidder * path_limit + path) false) of
                  ∙ set-mark seen h.bidder h.path bidder path (has_bid bidder path tested.earlier) tested.marks
                  bounds.bidder-below (omega (arith, bounds.path-below)) p (tested.marked bidder path b p)
                  ∙ ap (λ (k : Header). (eqb k.bidder bidder && eqb k.path path) || has_bid bidder path tested.earlier) is;
            }
