-- Going over the bids of a list in order, for loops over a list that is not refused.
use mathlib.Core.Path.{◌≡◌, refl, sym, ◌∙◌, ap, ap₂}
use mathlib.Core.Bool.{Bool, true, false, cond, ◌&&◌}
use mathlib.Core.List.{List, [], ◌∷◌, ◌++◌}
use Prim.Native.Nat.{ℕ, zero, suc, ◌+◌, ◌*◌, ◌≤◌, ◌<◌}
use native.Mathlib.Omega.{arith}
use lib.Dec.{leb}
use lib.ListN.{length}
use borrow.Author.Tests.{le-leb, lt-leb, lt-ltb}
use Rattle.market.proofs.Tests.{left-true, right-true}
use Rattle.market.specs.Answers.{first_of, no_refusal}
use Rattle.market.specs.Limits.{bidder_limit, lamination_limit, header_words, pair_words, bid_list_words, bid_limit}
use Rattle.round_bids.specs.Bids.{Bid, header_of, header_at, bid_end, bid_at, bids_from, bids_of}
use Rattle.round_bids.specs.BidRefusals.{whole_at, sound_header, sound_bid, sound_laminations, above_prices, bid_refusals, refusals_from, list_refusals, sound_bid_at, sound_from, sound_list}
use Rattle.round_bids.proofs.BidLaws.{fits-list, header-sound, header-bounds, HeaderBounds}
use Rattle.round_bids.proofs.EncodingLaws.{right-at}

-- a bid that is right for a book is right for one with more paths
right-more : (paths most : ℕ) (words : List ℕ) (at : ℕ) → paths ≤ most → sound_bid_at paths words at ≡ true → sound_bid_at most words at ≡ true
right-more paths most words at le good =
    let h = header_of (bid_at words at) in
    let sound = right-true (whole_at words at) (sound_bid paths (bid_at words at)) good in
    let header = left-true (sound_header paths h) (sound_laminations above_prices (bid_at words at).laminations) sound in
    let b = header-bounds paths h header in
    ap₂ ◌&&◌ (left-true (whole_at words at) (sound_bid paths (bid_at words at)) good)
    (ap₂ ◌&&◌
    (ap₂ ◌&&◌ (ap₂ ◌&&◌ (ap₂ ◌&&◌ (lt-ltb h.bidder bidder_limit b.bidder-below) (lt-ltb h.path most (omega (arith, b.path-below)))) (le-leb 1 h.count b.some))
    (le-leb h.count lamination_limit b.few))
    (right-true (sound_header paths h) (sound_laminations above_prices (bid_at words at).laminations) sound))

-- each bid of a list that is not refused is whole and sound
sound-after :
    (paths most more : ℕ) (words : List ℕ) (at : ℕ) (earlier : List Bid) → paths ≤ most
    → first_of (refusals_from more paths words at earlier) ≡ no_refusal → sound_from most more words at ≡ true
sound-after paths most zero words at earlier le h = refl
sound-after paths most (suc more) words at earlier le h =
    go (leb (length words) at) h (λ k. sound-after paths most more words (bid_end words at) (bid_at words at ∷ earlier) le k)
  where
    go :
        (t :
        Bool) → first_of (cond t [] (bid_refusals paths words at earlier ++ refusals_from more paths words (bid_end words at) (bid_at words at ∷ earlier))) ≡ no_refusal
        → (first_of (refusals_from more paths words (bid_end words at) (bid_at words at ∷ earlier)) ≡ no_refusal → sound_from most more words (bid_end words at) ≡ true)
        → cond t true (sound_bid_at most words at && sound_from most more words (bid_end words at)) ≡ true
    go true k next = refl
    go false k next =
        let here = right-at paths words at earlier (refusals_from more paths words (bid_end words at) (bid_at words at ∷ earlier)) k in
        ap (λ (t : Bool). t && sound_from most more words (bid_end words at)) (right-more paths most words at le here.0.good) ∙ next here.1

pub list-sound : (paths most : ℕ) (words : List ℕ) → paths ≤ most → first_of (list_refusals paths words) ≡ no_refusal → sound_list most words ≡ true
list-sound paths most words le h = sound-after paths most (length words) words 0 [] le h

-- there are `k` bids before a place, and those from there on are whole and sound
pub record Walk (paths : ℕ) (words : List ℕ) (k at : ℕ) : Type 0 where
  pub more : ℕ
  pub within : at ≤ length words
  pub enough : length words ≤ more + at
  pub sound : sound_from paths more words at ≡ true
  pub places : k * (header_words + pair_words) ≤ at
  pub counted : length (bids_of words) ≡ k + length (bids_from more words at)

-- the bids from there on
abbrev pub left : {paths : ℕ} {words : List ℕ} {k at : ℕ} → Walk paths words k at → List Bid
left {paths} {words} {k} {at} w = bids_from w.more words at

pub walk_start : (paths : ℕ) (words : List ℕ) → sound_list paths words ≡ true → Walk paths words 0 0
walk_start paths words ok =
    record {
      more = length words;
      within = omega arith;
      enough = omega arith;
      sound = ok;
      places = omega arith;
      counted = let same : length (bids_of words) ≡ 0 + length (bids_of words) = omega arith in same;
    }

pub left-start : (paths : ℕ) (words : List ℕ) (ok : sound_list paths words ≡ true) → left (walk_start paths words ok) ≡ bids_of words
unfolding walk_start
left-start paths words ok = refl

-- the bid at a place, and those after it
record Split (paths more : ℕ) (words : List ℕ) (at : ℕ) : Type 0 where
  n : ℕ
  one : suc n ≡ more
  good : sound_bid_at paths words at ≡ true
  rest : sound_from paths n words (bid_end words at) ≡ true
  bids : bids_from more words at ≡ bid_at words at ∷ bids_from n words (bid_end words at)

split : (paths more : ℕ) (words : List ℕ) (at : ℕ) → at < length words → length words ≤ more + at → sound_from paths more words at ≡ true → Split paths more words at
split paths zero words at below enough ok = absurd (let no : ⊥ = omega arith in no)
split paths (suc n) words at below enough ok =
    let inside : leb (length words) at ≡ false = lt-leb (length words) at below in
    let both : (sound_bid_at paths words at && sound_from paths n words (bid_end words at)) ≡ true =
    ap (λ (t : Bool). cond t true (sound_bid_at paths words at && sound_from paths n words (bid_end words at))) (sym inside) ∙ ok in
    record {
      n = n;
      one = refl;
      good = left-true (sound_bid_at paths words at) (sound_from paths n words (bid_end words at)) both;
      rest = right-true (sound_bid_at paths words at) (sound_from paths n words (bid_end words at)) both;
      bids = ap (λ (t : Bool). cond t [] (bid_at words at ∷ bids_from n words (bid_end words at))) inside;
    }

-- what is known of a bid that is whole and sound
module _ (paths : ℕ) (words : List ℕ) (at : ℕ) (good : sound_bid_at paths words at ≡ true) where
  pub right-bounds : HeaderBounds paths (header_at words at)
  right-bounds = header-bounds paths (header_at words at) (header-sound paths words at (header_at words at) refl good)

  pub right-pairs : sound_laminations above_prices (bid_at words at).laminations ≡ true
  right-pairs =
      right-true (sound_header paths (header_of (bid_at words at))) (sound_laminations above_prices (bid_at words at).laminations)
      (right-true (whole_at words at) (sound_bid paths (bid_at words at)) good)

module _ (paths : ℕ) (words : List ℕ) (k at : ℕ) (w : Walk paths words k at) where
  -- no bid is left
  pub walk-done : length words ≤ at → left w ≡ []
  walk-done end = go w.more
    where
      go : (more : ℕ) → bids_from more words at ≡ []
      go zero = refl
      go (suc n) = ap (λ (t : Bool). cond t [] (bid_at words at ∷ bids_from n words (bid_end words at))) (le-leb (length words) at end)

  -- so every bid was counted
  pub all-counted : length words ≤ at → k ≡ length (bids_of words)
  all-counted end = omega (arith, w.counted ∙ ap (λ (l : List Bid). k + length l) (walk-done end))

  module _ (below : at < length words) where
    here : Split paths w.more words at
    here = split paths w.more words at below w.enough w.sound

    -- the bid here is whole and sound
    pub bid-right : sound_bid_at paths words at ≡ true
    bid-right = here.good

    -- its number is below the limit of bids, since the list is short enough for a round
    pub bid-below : length words ≤ bid_list_words → k < bid_limit
    bid-below short =
        let fits = fits-list paths words at bid-right in
        let some = (right-bounds paths words at bid-right).some in
        omega (arith, fits, some, w.places)

    -- and below the number of bids
    pub number-below : k < length (bids_of words)
    number-below = omega (arith, w.counted ∙ ap (λ (l : List Bid). k + length l) here.bids)

    -- and the walk goes on after it
    pub walk-on : Walk paths words (k + 1) (bid_end words at)
    walk-on =
        let fits = fits-list paths words at bid-right in
        let some = (right-bounds paths words at bid-right).some in
        record {
          more = here.n;
          within = fits;
          enough = omega (arith, here.one, w.enough);
          sound = here.rest;
          places = omega (arith, some, w.places);
          counted =
              w.counted ∙ ap (λ (l : List Bid). k + length l) here.bids
              ∙ (let e : k + suc (length (bids_from here.n words (bid_end words at))) ≡ k + 1 + length (bids_from here.n words (bid_end words at)) = omega arith in e);
        }

    pub left-splits : left w ≡ bid_at words at ∷ left walk-on
    unfolding walk-on here
    left-splits = here.bids

-- the bids from a place on take at least six words each
bids-span : (paths more : ℕ) (words : List ℕ) (at : ℕ) → sound_from paths more words at ≡ true → at ≤ length words → length (bids_from more words at) * (header_words + pair_words) + at ≤ length words
bids-span paths zero words at ok within = omega arith
bids-span paths (suc more) words at ok within =
    go (leb (length words) at) ok (λ rest fits. bids-span paths more words (bid_end words at) rest fits)
  where
    go :
        (t :
        Bool) → cond t true (sound_bid_at paths words at && sound_from paths more words (bid_end words at)) ≡ true
        →
        (sound_from paths more words (bid_end words at) ≡ true → bid_end words at ≤ length words
        → length (bids_from more words (bid_end words at)) * (header_words + pair_words) + bid_end words at ≤ length words)
        → length (cond t [] (bid_at words at ∷ bids_from more words (bid_end words at))) * (header_words + pair_words) + at ≤ length words
    go true h next = omega arith
    go false h next =
        let good = left-true (sound_bid_at paths words at) (sound_from paths more words (bid_end words at)) h in
        let rest = right-true (sound_bid_at paths words at) (sound_from paths more words (bid_end words at)) h in
        let some = (right-bounds paths words at good).some in
        let span = next rest (fits-list paths words at good) in
        omega (arith, some, span)

-- so a list that a round takes has at most as many bids as can have answers
pub bids-few : (paths : ℕ) (words : List ℕ) → sound_list paths words ≡ true → length words ≤ bid_list_words → length (bids_of words) ≤ bid_limit
bids-few paths words ok short = omega (arith, bids-span paths (length words) words 0 ok (let none : 0 ≤ length words = omega arith in none))
