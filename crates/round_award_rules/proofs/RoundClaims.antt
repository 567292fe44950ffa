-- The claims of a round's bids: which claim is of which bid, and what is known of each.
use mathlib.Core.Path.{◌≡◌, refl, ◌∙◌, ap, ap₂, subst}
use mathlib.Core.Bool.{Bool, true, false, cond, not, ◌&&◌}
use mathlib.Core.List.{List, [], ◌∷◌, ◌++◌, append-nil}
use Prim.Native.Nat.{ℕ, zero, suc, ◌+◌, ◌≤◌, ◌<◌}
use native.Mathlib.Omega.{arith}
use lib.Dec.{eqb, leb, ltb}
use lib.ListN.{length, get_or}
use borrow.Author.Tests.{leb-true, ltb-true}
use Rattle.market.proofs.Tests.{left-true, right-true}
use Rattle.market.specs.Limits.{header_words, pair_words, admitted, price_limit, quantity_limit}
use Rattle.round_bids.specs.Bids.{Bid, header_of}
use Rattle.round_bids.specs.Encoding.{right_after}
use Rattle.round_bids.specs.BidRefusals.{sound_lamination, sound_laminations, above_prices, sound_header, sound_bid, has_bid, stamp_of}
use Rattle.round_bids.specs.declared.Lamination.{Lamination}
use Rattle.round_award_rules.specs.Awards.{Claim, next_at, claims_in, claims_of_bid, claims_from}
use Rattle.round_award_rules.specs.Rivals.{Each}
use Rattle.round_award_rules.proofs.Claims.{each_map, each_append}
use Rattle.round_award_rules.proofs.BidClaims.{of_bid, of-append, of-all, of_none, Above, Strict, strict-append}

-- ---- A fact of each bid and its number

abbrev pub EachBid : (ℕ → Bid → Type 0) → ℕ → List Bid → Type 0
EachBid holds n [] = Unit {0}
EachBid holds n (b ∷ bs) = holds n b × EachBid holds (n + 1) bs

pub bids-map : (P Q : ℕ → Bid → Type 0) (n : ℕ) (bs : List Bid) → ((k : ℕ) (b : Bid) → n ≤ k → P k b → Q k b) → EachBid P n bs → EachBid Q n bs
bids-map P Q n [] f h = tt
bids-map P Q n (b ∷ bs) f h =
    (f n b (omega arith) h.0, bids-map P Q (n + 1) bs (λ k c from. f k c (omega arith)) h.1)

pub bids-at : (P : ℕ → Bid → Type 0) (n : ℕ) (bs : List Bid) (k : ℕ) (d : Bid) → k < length bs → EachBid P n bs → P (n + k) (get_or bs k d)
bids-at P n [] k d below h = absurd (let no : ⊥ = omega arith in no)
bids-at P n (b ∷ bs) zero d below h = subst (λ (i : ℕ). P i b) (let same : n ≡ n + 0 = omega arith in same) h.0
bids-at P n (b ∷ bs) (suc k) d below h =
    subst (λ (i : ℕ). P i (get_or bs k d)) (let same : n + 1 + k ≡ n + suc k = omega arith in same)
    (bids-at P (n + 1) bs k d (omega arith) h.1)

-- ---- The claims of one bid

-- what is known of a claim of a bid
pub record InBid (bid path before : ℕ) (l : Claim) : Type 0 where
  pub of : l.bid ≡ bid
  pub on : l.path ≡ path
  pub below : l.price < before
  pub some : 1 ≤ l.price

pub claims-in :
    (bid path place before : ℕ) (ls : List Lamination) → sound_laminations before ls ≡ true
    → Each (InBid bid path before) (claims_in bid path place ls) × Strict (claims_in bid path place ls)
claims-in bid path place before [] h = (tt, tt)
claims-in bid path place before (l ∷ ls) h =
    let p = l.price.0 in
    let t1 = leb 1 p in
    let t2 = leb p price_limit in
    let t3 = leb 1 l.quantity.0 in
    let t4 = leb l.quantity.0 quantity_limit in
    let here = left-true (sound_lamination l && ltb p before) (sound_laminations p ls) h in
    let some : 1 ≤ p = leb-true 1 p (left-true t1 t2 (left-true (t1 && t2) t3 (left-true (t1 && t2 && t3) t4 (left-true (sound_lamination l) (ltb p before) here)))) in
    let falls : p < before = ltb-true p before (right-true (sound_lamination l) (ltb p before) here) in
    let rest = claims-in bid path (place + pair_words) p ls (right-true (sound_lamination l && ltb p before) (sound_laminations p ls) h) in
    let later = claims_in bid path (place + pair_words) ls in (
      (
        record { of = refl; on = refl; below = falls; some = some },
        each_map {P = InBid bid path p} {Q = InBid bid path before} (λ m i. record { of = i.of; on = i.on; below = omega (arith, i.below); some = i.some }) later rest.0,
      ),
      (each_map {P = InBid bid path p} {Q = λ m. m.bid ≡ bid → m.price < p} (λ m i same. i.below) later rest.0, rest.1),
    )

pub claims-of-bid :
    (bid at : ℕ) (b : Bid) (mark : ℕ) → sound_laminations above_prices b.laminations ≡ true
    → Each (InBid bid b.path above_prices) (claims_of_bid bid at b mark) × Strict (claims_of_bid bid at b mark)
claims-of-bid bid at b mark sound = go (eqb mark admitted)
  where
    go :
        (t :
        Bool)
        → Each (InBid bid b.path above_prices) (cond t (claims_in bid b.path (at + header_words) b.laminations) [])
        × Strict (cond t (claims_in bid b.path (at + header_words) b.laminations) [])
    go true = claims-in bid b.path (at + header_words) above_prices b.laminations sound
    go false = (tt, tt)

-- ---- The claims of all bids

-- the pairs of a bid are sound
abbrev pub SoundPairs : ℕ → Bid → Type 0
SoundPairs bid b = sound_laminations above_prices b.laminations ≡ true

pub right-pairs : (paths n : ℕ) (earlier bs : List Bid) → right_after paths earlier bs ≡ true → EachBid SoundPairs n bs
right-pairs paths n earlier [] h = tt
right-pairs paths n earlier (b ∷ bs) h =
    let t1 = sound_bid paths b in
    let t2 = not (has_bid b.bidder b.path earlier) in
    let t3 = leb (stamp_of earlier) b.stamp in
    let t4 = right_after paths (b ∷ earlier) bs in
    let sound : sound_bid paths b ≡ true = left-true t1 t2 (left-true (t1 && t2) t3 (left-true (t1 && t2 && t3) t4 h)) in (
      right-true (sound_header paths (header_of b)) (sound_laminations above_prices b.laminations) sound,
      right-pairs paths (n + 1) (b ∷ earlier) bs (right-true (t1 && t2 && t3) t4 h),
    )

-- what is known of a claim of bids whose numbers are in a range
pub record InRound (first next : ℕ) (l : Claim) : Type 0 where
  pub from : first ≤ l.bid
  pub to : l.bid < next
  pub some : 1 ≤ l.price
  pub top : l.price ≤ price_limit

pub claims-from : (n at : ℕ) (bs : List Bid) (marks : List ℕ) → EachBid SoundPairs n bs → Each (InRound n (n + length bs)) (claims_from n at bs marks) × Strict (claims_from n at bs marks)
claims-from n at [] marks h = (tt, tt)
claims-from n at (b ∷ bs) marks h =
    let own = claims_of_bid n at b (get_or marks n 0) in
    let others = claims_from (n + 1) (next_at at b) bs marks in
    let here = claims-of-bid n at b (get_or marks n 0) h.0 in
    let rest = claims-from (n + 1) (next_at at b) bs marks h.1 in
    let all = InRound n (n + suc (length bs)) in (
      each_append all own others
          (each_map {P = InBid n b.path above_prices} {Q = all} (λ l i. record { from = omega (arith, i.of); to = omega (arith, i.of); some = i.some; top = omega (arith, i.below) }) own
          here.0)
          (each_map {P = InRound (n + 1) (n + 1 + length bs)} {Q = all} (λ l i. record { from = omega (arith, i.from); to = omega (arith, i.to); some = i.some; top = i.top }) others rest.0),
      strict-append own others here.1 rest.1
          (each_map {P = InBid n b.path above_prices} {Q = λ l. Each (Above l) others}
          (λ l i. each_map {P = InRound (n + 1) (n + 1 + length bs)} {Q = Above l} (λ m j same. omega (arith, i.of, j.from, same)) others rest.0) own here.0),
    )

-- the claims of the bid with a number
pub record Own (claims : List Claim) (marks : List ℕ) (bid : ℕ) (b : Bid) : Type 0 where
  pub at : ℕ
  pub are : of_bid bid claims ≡ claims_of_bid bid at b (get_or marks bid 0)
  pub sound : SoundPairs bid b

pub own-claims : (n at : ℕ) (bs : List Bid) (marks : List ℕ) → EachBid SoundPairs n bs → EachBid (Own (claims_from n at bs marks) marks) n bs
own-claims n at [] marks h = tt
own-claims n at (b ∷ bs) marks h =
    let own = claims_of_bid n at b (get_or marks n 0) in
    let others = claims_from (n + 1) (next_at at b) bs marks in
    let here = claims-of-bid n at b (get_or marks n 0) h.0 in
    let rest = claims-from (n + 1) (next_at at b) bs marks h.1 in (
      record {
        at = at;
        are =
            of-append n own others
            ∙ ap₂ ◌++◌ (of-all n own (each_map {P = InBid n b.path above_prices} {Q = λ l. l.bid ≡ n} (λ l i. i.of) own here.0))
            (of_none n others (each_map {P = InRound (n + 1) (n + 1 + length bs)} {Q = λ l. l.bid ≡ n → ⊥} (λ l i same. omega (arith, i.from, same)) others rest.0))
            ∙ append-nil own;
        sound = h.0;
      },
      bids-map (Own others marks) (Own (own ++ others) marks) (n + 1) bs
          (λ k c from mine. record {
            at = mine.at;
            are =
                of-append k own others
                ∙ ap (◌++ of_bid k others) (of_none k own (each_map {P = InBid n b.path above_prices} {Q = λ l. l.bid ≡ k → ⊥} (λ l i same. omega (arith, i.of, same, from)) own here.0))
                ∙ mine.are;
            sound = mine.sound;
          })
          (own-claims (n + 1) (next_at at b) bs marks h.1),
    )
