-- Laws about a round's lists: numbers past the last bid change nothing, and the winners are as many as the new entries.
use mathlib.Core.Path.{◌≡◌, refl, ◌∙◌, ap, ap₂}
use mathlib.Core.Bool.{Bool, true, false, cond, ◌&&◌}
use mathlib.Core.List.{List, [], ◌∷◌, ◌++◌}
use Prim.Native.Nat.{ℕ, zero, suc, ◌+◌, ◌*◌, ◌-◌, ◌≤◌}
use native.Mathlib.Omega.{arith}
use lib.Dec.{ltb}
use lib.ListN.{length, get_or, replicate, length-append, length-replicate}
use borrow.Author.Tests.{le-leb}
use Rattle.market.proofs.Filled.{zeros-at}
use Rattle.market.proofs.SoundLaws.{sound-parts, path-bounds}
use Rattle.market.proofs.Tests.{left-true, right-true}
use Rattle.market.specs.Books.{every, paths_of}
use Rattle.market.specs.Sound.{round_of, sound_path, sound_book}
use Rattle.market.specs.declared.book.Bidder.{Bidder}
use Rattle.market.specs.declared.book.Book.{Book}
use Rattle.market.specs.declared.book.Stage.{Stage}
use Rattle.market.specs.declared.book.Path.{Path}
use Rattle.round_paths.specs.PathSales.{sold_within}
use Rattle.market.specs.Limits.{quantity_limit, header_words, pair_words, bid_limit}
use Rattle.market.specs.declared.book.Period.{Period}
use Rattle.round_bids.specs.Bids.{Bid, bid_value}
use Rattle.round_award_rules.specs.Awards.{Claim, claims_of_bid, claims_from, in_order, walk, awards_of}
use Rattle.round_charges.specs.Charges.{charge_at, bid_rows_from}
use Rattle.round_entries.specs.Entries.{if_won, entry_of, entries_from, new_entries, winners_in}
use Rattle.call_round.specs.Padded.{padded}

-- a padded list has the same number at every place as the list, and 0 past it
more-at : (l : List ℕ) (n k : ℕ) → get_or (l ++ replicate n 0) k 0 ≡ get_or l k 0
more-at [] n k = zeros-at n k
more-at (x ∷ l) n zero = refl
more-at (x ∷ l) n (suc k) = more-at l n k

pub padded-at : (l : List ℕ) (count k : ℕ) → get_or (padded l count) k 0 ≡ get_or l k 0
padded-at l count k = more-at l (bid_limit - count) k

pub padded-length : (l : List ℕ) (count : ℕ) → length l ≡ count → count ≤ bid_limit → length (padded l count) ≡ bid_limit
padded-length l count is few =
    let sum = length-append l (let none : List ℕ = replicate (bid_limit - count) 0 in none) in
    let blank = length-replicate (bid_limit - count) (let zero : ℕ = 0 in zero) in
    omega (arith, sum, blank, is, few)

-- two lists of marks with the same number at every place give the same claims, awards and rows
module _ (ms ns : List ℕ) (same : (k : ℕ) → get_or ms k 0 ≡ get_or ns k 0) where
  claims-same : (bid at : ℕ) (bids : List Bid) → claims_from bid at bids ms ≡ claims_from bid at bids ns
  claims-same bid at [] = refl
  claims-same bid at (b ∷ bs) =
      ap₂ (λ (mark : ℕ) (rest : List Claim). claims_of_bid bid at b mark ++ rest) (same bid)
      (claims-same (bid + 1) (at + header_words + length b.laminations * pair_words) bs)

  pub awards-same : (offered : List ℕ) (bids : List Bid) → awards_of offered bids ms ≡ awards_of offered bids ns
  unfolding awards_of
  awards-same offered bids = ap (λ (claims : List Claim). walk offered (in_order claims)) (claims-same 0 0 bids)

  pub rows_same : (won prices : List ℕ) (bid : ℕ) (bids : List Bid) → bid_rows_from ms won prices bid bids ≡ bid_rows_from ns won prices bid bids
  rows_same won prices bid [] = refl
  rows_same won prices bid (b ∷ bs) =
      ap₂ (λ (mark : ℕ) (rest : List ℕ). (mark ∷ bid_value b ∷ get_or won bid 0 ∷ charge_at won prices bid b ∷ []) ++ rest) (same bid) (rows_same won prices (bid + 1) bs)

-- as many bids win as there are new entries
entries-are : (period : Period) (won : List ℕ) (bid : ℕ) (bids : List Bid) → winners_in won (bid + length bids) ≡ winners_in won bid + length (entries_from period won bid bids)
entries-are period won bid [] = let e = ap (winners_in won) (let same : bid + 0 ≡ bid = omega arith in same) in omega (arith, e)
entries-are period won bid (b ∷ bs) =
    let e = ap (winners_in won) (let same : bid + suc (length bs) ≡ bid + 1 + length bs = omega arith in same) in
    let next = ap (winners_in won) (let more : bid + 1 ≡ suc bid = omega arith in more) in
    let rest = entries-are period won (bid + 1) bs in
    let size = length-append (if_won (entry_of period (get_or won bid 0) b)) (entries_from period won (bid + 1) bs) in
    omega (arith, e, next, rest, size, one (ltb 0 (get_or won bid 0)))
  where
    one : (t : Bool) → length (cond t (entry_of period (get_or won bid 0) b ∷ []) []) ≡ cond t 1 0
    one true = refl
    one false = refl

pub winners-are : (period : Period) (won : List ℕ) (bids : List Bid) → winners_in won (length bids) ≡ length (new_entries period won bids)
winners-are period won bids =
    let e = ap (winners_in won) (let same : 0 + length bids ≡ length bids = omega arith in same) in
    omega (arith, e, entries-are period won 0 bids)

-- in a sound book no path has sold more than 9,999 MW, the limit of a quantity
path-sold : (round : ℕ) (x : Path) → sound_path round x ≡ true → sold_within x ≡ true
path-sold round x h =
    le-leb x.sold.0 quantity_limit (omega (arith, (path-bounds round x h).sold, (path-bounds round x h).offer))

paths-sold : (round : ℕ) (l : List Path) → every (sound_path round) l ≡ true → every sold_within l ≡ true
paths-sold round [] h = refl
paths-sold round (x ∷ l) h =
    ap₂ ◌&&◌ (path-sold round x (left-true (sound_path round x) (every (sound_path round) l) h))
    (paths-sold round l (right-true (sound_path round x) (every (sound_path round) l) h))

pub sold-sound : (b : Book) → sound_book b ≡ true → every sold_within (paths_of b) ≡ true
sold-sound b h = paths-sold (round_of b.stage) (paths_of b) (sound-parts b h).paths

-- books made of equal parts are equal
abbrev pub made : Book → List Path → List Bidder → ℕ → Stage → Book
made b slots bidders entries stage =
    record {
      paths = slots;
      path_count = b.path_count;
      bidders = bidders;
      account = b.account;
      entries = entries;
      stage = stage;
    }

pub made-same : (b : Book) (n : ℕ) {p q : List Path} {x y : List Bidder} {s t : Stage} → p ≡ q → x ≡ y → s ≡ t → made b p x n s ≡ made b q y n t
made-same b n {p} {q} {x} {y} {s} {t} ep ex es =
    ap (λ (l : List Path). made b l x n s) ep
    ∙ ap (λ (l : List Bidder). made b q l n s) ex
    ∙ ap (λ (l : Stage). made b q y n l) es
