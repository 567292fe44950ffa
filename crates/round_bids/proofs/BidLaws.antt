-- Laws about bids as words of a list.
use mathlib.Core.Path.{◌≡◌, refl, sym, ◌∙◌, ap, ap₂}
use mathlib.Core.Bool.{Bool, true, false, ◌&&◌, and-false}
use mathlib.Core.List.{List, ◌∷◌}
use Prim.Native.Nat.{ℕ, zero, suc, ◌+◌, ◌*◌, ◌-◌, ◌≤◌, ◌<◌}
use native.Mathlib.Omega.{arith}
use lib.Dec.{leb, ltb}
use lib.ListN.{length}
use borrow.Author.Tests.{le-leb, lt-leb, leb-true, ltb-true}
use Rattle.market.proofs.Tests.{left-true, right-true}
use Rattle.market.specs.Limits.{bidder_limit, lamination_limit, pair_words}
use Rattle.round_bids.specs.Bids.{header_of, header_at, lamination_at, laminations_at, pairs_from, bid_at, bid_end}
use Rattle.round_bids.specs.BidRefusals.{sound_lamination, sound_laminations, above_prices, sound_header, sound_bid, whole_at, sound_bid_at}
use Rattle.round_bids.specs.declared.Header.{Header}
use Rattle.round_bids.specs.declared.Lamination.{Lamination}

-- the pairs from pair `i` on are pair `i` and those after it
pub laminations-next :
    (words :
    List ℕ) (at count i : ℕ) → i < count
    → laminations_at words (at + i * pair_words) (count - i) ≡ lamination_at words (at + i * pair_words) ∷ laminations_at words (at + (i + 1) * pair_words) (count - (i + 1))
laminations-next words at count i below =
    let left : count - i ≡ suc (count - (i + 1)) = omega arith in
    let next : at + i * pair_words + pair_words ≡ at + (i + 1) * pair_words = omega arith in
    ap (laminations_at words (at + i * pair_words)) left
    ∙ ap (λ (p : ℕ). lamination_at words (at + i * pair_words) ∷ laminations_at words p (count - (i + 1))) next

-- a bid has as many laminations as its header says
pub laminations-count : (words : List ℕ) (at n : ℕ) → length (laminations_at words at n) ≡ n
laminations-count words at zero = refl
laminations-count words at (suc n) = ap suc (laminations-count words (at + pair_words) n)

-- the pairs of a bid tested from the front: what is left to test after the first `i`, where `before` is the price before them
module _ (words : List ℕ) (at count : ℕ) where
  abbrev pub TestedTo : ℕ → ℕ → Type 0
  TestedTo i before =
      sound_laminations above_prices (laminations_at words at count)
      ≡ sound_laminations before (laminations_at words (at + i * pair_words) (count - i))

  pub tested-none : TestedTo 0 above_prices
  tested-none =
      ap₂ (λ (p n : ℕ). sound_laminations above_prices (laminations_at words p n))
      (let same : at ≡ at + 0 * pair_words = omega arith in same)
      (let all : count ≡ count - 0 = omega arith in all)

  module _ (i before : ℕ) (tested : TestedTo i before) where
    pub tested-all : count ≤ i → sound_laminations above_prices (laminations_at words at count) ≡ true
    tested-all all =
        tested
        ∙ ap (λ (n : ℕ). sound_laminations before (laminations_at words (at + i * pair_words) n))
        (let none : count - i ≡ 0 = omega arith in none)

    module _ (l : Lamination) (is : l ≡ lamination_at words (at + i * pair_words)) (sound : Bool) (tests : sound ≡ sound_lamination l) (below : i < count) where
      abbrev rest : Bool
      rest = sound_laminations l.price.0 (laminations_at words (at + (i + 1) * pair_words) (count - (i + 1)))

      split : sound_laminations above_prices (laminations_at words at count) ≡ ((sound && ltb l.price.0 before) && rest)
      split =
          tested
          ∙ ap (sound_laminations before)
          (laminations-next words at count i below
          ∙ ap (λ (k : Lamination). k ∷ laminations_at words (at + (i + 1) * pair_words) (count - (i + 1))) (sym is))
          ∙ ap (λ (t : Bool). (t && ltb l.price.0 before) && rest) (sym tests)

      pub tested-next : (sound && ltb l.price.0 before) ≡ true → TestedTo (i + 1) l.price.0
      tested-next e = split ∙ ap (λ (t : Bool). t && rest) e

      pub tested-fails : (sound && ltb l.price.0 before) ≡ false → sound_laminations above_prices (laminations_at words at count) ≡ false
      tested-fails e = split ∙ ap (λ (t : Bool). t && rest) e

-- the bid at a place: whether it is whole and sound
module _ (paths : ℕ) (words : List ℕ) (at : ℕ) where
  abbrev right : Bool
  right = sound_bid_at paths words at

  -- it is not, if words are missing
  pub not-whole : length words < bid_end words at → right ≡ false
  not-whole cut = ap (λ (t : Bool). t && sound_bid paths (bid_at words at)) (lt-leb (bid_end words at) (length words) cut)

  -- if it is, the list has all its words
  pub fits-list : right ≡ true → bid_end words at ≤ length words
  fits-list ok =
      leb-true (bid_end words at) (length words) (left-true (whole_at words at) (sound_bid paths (bid_at words at)) ok)

  module _ (h : Header) (is : h ≡ header_at words at) where
    header-of : header_of (bid_at words at) ≡ h
    header-of =
        ap
        (λ (n : ℕ). record { bidder = (header_at words at).bidder; path = (header_at words at).path; stamp = (header_at words at).stamp; count = n })
        (laminations-count words (pairs_from at) (header_at words at).count)
        ∙ sym is

    end_of : bid_end words at ≡ pairs_from at + h.count * pair_words
    end_of = ap (λ (k : Header). pairs_from at + k.count * pair_words) (sym is)

    pub cut_short : length words < pairs_from at + h.count * pair_words → right ≡ false
    cut_short cut = not-whole (omega (arith, end_of))

    -- nor if a field before the pairs is bad
    pub bad-header : sound_header paths h ≡ false → right ≡ false
    bad-header bad =
        ap
        (λ (t : Bool). whole_at words at && (t && sound_laminations above_prices (bid_at words at).laminations))
        (ap (sound_header paths) header-of ∙ bad)
        ∙ and-false (whole_at words at)

    -- and otherwise the pairs decide
    pub pairs_decide : sound_header paths h ≡ true → pairs_from at + h.count * pair_words ≤ length words → right ≡ sound_laminations above_prices (bid_at words at).laminations
    pairs_decide good fits =
        ap₂ (λ (s t : Bool). s && (t && sound_laminations above_prices (bid_at words at).laminations))
        (le-leb (bid_end words at) (length words) (omega (arith, end_of))) (ap (sound_header paths) header-of ∙ good)

    -- what is known of a bid that is whole and sound
    pub header-sound : right ≡ true → sound_header paths h ≡ true
    header-sound ok =
        ap (sound_header paths) (sym header-of)
        ∙ left-true (sound_header paths (header_of (bid_at words at))) (sound_laminations above_prices (bid_at words at).laminations)
        (right-true (whole_at words at) (sound_bid paths (bid_at words at)) ok)

-- the bounds in a sound header
pub record HeaderBounds (paths : ℕ) (h : Header) : Type 0 where
  pub bidder-below : h.bidder < bidder_limit
  pub path-below : h.path < paths
  pub some : 1 ≤ h.count
  pub few : h.count ≤ lamination_limit

pub header-bounds : (paths : ℕ) (h : Header) → sound_header paths h ≡ true → HeaderBounds paths h
header-bounds paths h ok =
    let t1 = ltb h.bidder bidder_limit in
    let t2 = ltb h.path paths in
    let t3 = leb 1 h.count in
    let t4 = leb h.count lamination_limit in
    let s3 = left-true (t1 && t2 && t3) t4 ok in
    let s2 = left-true (t1 && t2) t3 s3 in
    record {
      bidder-below = ltb-true h.bidder bidder_limit (left-true t1 t2 s2);
      path-below = ltb-true h.path paths (right-true t1 t2 s2);
      some = leb-true 1 h.count (right-true (t1 && t2) t3 s3);
      few = leb-true h.count lamination_limit (right-true (t1 && t2 && t3) t4 ok);
    }
