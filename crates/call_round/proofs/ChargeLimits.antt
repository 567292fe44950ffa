-- A bidder's charges in a round are within its bidding limit: along the bids in order, what is charged is at most what is
-- admitted.
use mathlib.Core.Path.{◌≡◌, refl, sym, ◌∙◌, ap, subst}
use mathlib.Core.Bool.{Bool, true, false, cond}
use mathlib.Core.List.{List, [], ◌∷◌}
use Prim.Native.Nat.{ℕ, zero, suc, ◌+◌, ◌*◌, ◌-◌, ◌≤◌, ◌<◌, min}
use native.Mathlib.Nat.{mul-le-mul, mul-le-mul_left, mul-zero}
use native.Mathlib.Omega.{arith}
use lib.Dec.{leb, eqb}
use lib.ListN.{length, get_or, set, replicate, length-set, get_or-eq_default}
use borrow.Author.Tests.{leb-true, leb-false}
use Rattle.market.specs.Books.{credit}
use Rattle.market.specs.Limits.{bidder_limit, bid_limit, path_limit, admitted, over}
use Rattle.market.specs.declared.book.Book.{Book}
use Rattle.round_bids.specs.Bids.{Bid, bid_value, laminations_value}
use Rattle.round_bids.specs.Encoding.{right_bids}
use Rattle.round_bids.specs.declared.Lamination.{Lamination}
use Rattle.round_admission.specs.Admission.{bidding_limits, admits, mark_of, used_after, marks_from}
use Rattle.round_award_rules.proofs.BestAward.{charge-within, over-wins-none}
use Rattle.round_award_rules.proofs.RoundClaims.{EachBid}
use Rattle.round_award_rules.specs.Awards.{Award, awards_of, won_by, price_on, charge_of}
use Rattle.round_award_rules.specs.Rivals.{filled_value}
use Rattle.round_awards.proofs.TableLaws.{below_at, below_length}
use Rattle.round_awards.specs.Tables.{below}
use Rattle.round_charges.specs.Charges.{charge_at, charged_from, charges_of}
use Rattle.call_round.proofs.RoundBounds.{no_bid}
use Rattle.call_round.specs.Round.{offered_now, awards_now, won_now, prices_now}

-- ---- Amounts by bidder

-- each amount of the first list is at most that of the second
abbrev pub Under : List ℕ → List ℕ → Type 0
Under l m = (i : ℕ) → get_or l i 0 ≤ get_or m i 0

-- an amount set to at most what the other has there
under-set : (l : List ℕ) (f : ℕ → ℕ) (j a i : ℕ) → ((k : ℕ) → get_or l k 0 ≤ f k) → a ≤ f j → get_or (set l j a) i 0 ≤ f i
under-set [] f j a i h most = omega arith
under-set (x ∷ l) f zero a zero h most = most
under-set (x ∷ l) f zero a (suc i) h most = h (suc i)
under-set (x ∷ l) f (suc j) a zero h most = h zero
under-set (x ∷ l) f (suc j) a (suc i) h most = under-set l (λ k. f (suc k)) j a i (λ k. h (suc k)) most

-- both amounts set, one to at most the other
both-set : (l m : List ℕ) (j a c i : ℕ) → length l ≡ length m → Under l m → a ≤ c → get_or (set l j a) i 0 ≤ get_or (set m j c) i 0
both-set [] m j a c i same h most = omega arith
both-set (x ∷ l) [] j a c i same h most = absurd (let no : ⊥ = omega (arith, same) in no)
both-set (x ∷ l) (y ∷ m) zero a c zero same h most = most
both-set (x ∷ l) (y ∷ m) zero a c (suc i) same h most = h (suc i)
both-set (x ∷ l) (y ∷ m) (suc j) a c zero same h most = h zero
both-set (x ∷ l) (y ∷ m) (suc j) a c (suc i) same h most = both-set l m j a c i (omega (arith, same)) (λ k. h (suc k)) most

-- ---- Charges and admitted values, bid by bid

-- each bid from a number on is charged at most its bid value, and nothing where it is over
abbrev Paid : List ℕ → List ℕ → List ℕ → List ℕ → ℕ → List Bid → Type 0
Paid won prices limits used k [] = Unit {0}
Paid won prices limits used k (b ∷ bs) =
    (charge_at won prices k b ≤ cond (admits limits used b) (bid_value b) 0)
    × Paid won prices limits (used_after limits used b) (k + 1) bs

-- what is admitted of a bid stays within the limits
used-within : (limits used : List ℕ) (b : Bid) → Under used limits → Under (used_after limits used b) limits
used-within limits used b h = go (admits limits used b) refl
  where
    go : (t : Bool) → admits limits used b ≡ t → Under (cond t (credit used b.bidder (bid_value b)) used) limits
    go true e i =
        under-set used (λ k. get_or limits k 0) b.bidder (get_or used b.bidder 0 + bid_value b) i h
        (leb-true (get_or used b.bidder 0 + bid_value b) (get_or limits b.bidder 0) e)
    go false e i = h i

used-length : (limits used : List ℕ) (b : Bid) → length (used_after limits used b) ≡ length used
used-length limits used b = go (admits limits used b)
  where
    go : (t : Bool) → length (cond t (credit used b.bidder (bid_value b)) used) ≡ length used
    go true = length-set used b.bidder (get_or used b.bidder 0 + bid_value b)
    go false = refl

-- and what is charged stays at most what is admitted
charge-under :
    (limits amounts used : List ℕ) (b : Bid) (charge : ℕ) → length amounts ≡ length used → Under amounts used → charge ≤ cond (admits limits used b) (bid_value b) 0
    → Under (credit amounts b.bidder charge) (used_after limits used b)
charge-under limits amounts used b charge same h most = go (admits limits used b) most
  where
    go : (t : Bool) → charge ≤ cond t (bid_value b) 0 → Under (credit amounts b.bidder charge) (cond t (credit used b.bidder (bid_value b)) used)
    go true le i =
        both-set amounts used b.bidder (get_or amounts b.bidder 0 + charge) (get_or used b.bidder 0 + bid_value b) i same h
        (omega (arith, h b.bidder))
    go false le i =
        under-set amounts (λ k. get_or used k 0) b.bidder (get_or amounts b.bidder 0 + charge) i h (omega (arith, h b.bidder))

charged-within :
    (won prices limits amounts used : List ℕ) (k : ℕ) (bs : List Bid) → length amounts ≡ length used → Under amounts used → Under used limits → Paid won prices limits used k bs
    → Under (charged_from won prices amounts k bs) limits
charged-within won prices limits amounts used k [] same h most paid = λ i. omega (arith, h i, most i)
charged-within won prices limits amounts used k (b ∷ bs) same h most paid =
    charged-within won prices limits (credit amounts b.bidder (charge_at won prices k b)) (used_after limits used b) (k + 1) bs
    (length-set amounts b.bidder (get_or amounts b.bidder 0 + charge_at won prices k b) ∙ same ∙ sym (used-length limits used b))
    (charge-under limits amounts used b (charge_at won prices k b) same h paid.0)
    (used-within limits used b most) paid.1

-- ---- From the marks

-- a bid is charged at most its value, and nothing where its mark is over
abbrev Charged : List ℕ → List ℕ → List ℕ → ℕ → Bid → Type 0
Charged won prices marks k b =
    (charge_at won prices k b ≤ bid_value b) × (eqb (get_or marks k 0) admitted ≡ false → charge_at won prices k b ≤ 0)

paid-from :
    (won prices marks limits used : List ℕ) (k : ℕ) (bs : List Bid) → ((j : ℕ) → get_or marks (k + j) 0 ≡ get_or (marks_from limits used bs) j 0) → EachBid (Charged won prices marks) k bs
    → Paid won prices limits used k bs
paid-from won prices marks limits used k [] marked h = tt
paid-from won prices marks limits used k (b ∷ bs) marked h = (
  go (admits limits used b) mark,
  paid-from won prices marks limits (used_after limits used b) (k + 1) bs (λ j. ap (λ (n : ℕ). get_or marks n 0) (let e : k + 1 + j ≡ k + suc j = omega arith in e) ∙ marked (suc j)) h.1,
)
  where
    mark : get_or marks k 0 ≡ mark_of limits used b
    mark = ap (λ (n : ℕ). get_or marks n 0) (let e : k ≡ k + 0 = omega arith in e) ∙ marked 0

    go : (t : Bool) → get_or marks k 0 ≡ cond t admitted over → charge_at won prices k b ≤ cond t (bid_value b) 0
    go true e = h.0.0
    go false e = h.0.1 (ap (λ (n : ℕ). eqb n admitted) e)

-- ---- From the awards

each-bid : (P : ℕ → Bid → Type 0) (n : ℕ) (bs : List Bid) (d : Bid) → ((k : ℕ) → k < length bs → P (n + k) (get_or bs k d)) → EachBid P n bs
each-bid P n [] d h = tt
each-bid P n (b ∷ bs) d h = (
  subst (λ (i : ℕ). P i b) (let e : n + 0 ≡ n = omega arith in e) (h 0 (omega arith)),
  each-bid P (n + 1) bs d (λ k inside. subst (λ (i : ℕ). P i (get_or bs k d)) (let e : n + suc k ≡ n + 1 + k = omega arith in e) (h (suc k) (omega arith))),
)

-- a fact of every bid by its number
pub all-bids : (P : ℕ → Bid → Type 0) (bs : List Bid) (d : Bid) → ((k : ℕ) → k < length bs → P k (get_or bs k d)) → EachBid P 0 bs
all-bids P bs d h =
    each-bid P 0 bs d (λ k inside. subst (λ (i : ℕ). P i (get_or bs k d)) (let e : k ≡ 0 + k = omega arith in e) (h k inside))

-- the value of what is filled of a bid is at most the value of the whole bid
filled_within : (won : ℕ) (ls : List Lamination) → filled_value won ls ≤ laminations_value ls
filled_within won [] = omega arith
filled_within won (l ∷ ls) =
    let part : min l.quantity.0 won ≤ l.quantity.0 = omega arith in
    omega (arith, mul-le-mul_left l.price.0 part, filled_within (won - min l.quantity.0 won) ls)

-- a table has a function's values, and 0 past its end
pub below-most : (n : ℕ) (f : ℕ → ℕ) (i : ℕ) → get_or (below n f) i 0 ≤ f i
below-most n f i = go (leb n i) refl
  where
    go : (t : Bool) → leb n i ≡ t → get_or (below n f) i 0 ≤ f i
    go true e = omega (arith, get_or-eq_default (below n f) 0 {n = i} (omega (arith, below_length n f, leb-true n i e)))
    go false e = omega (arith, below_at n f i (leb-false n i e))

module _ (paths : ℕ) (offered : List ℕ) (bids : List Bid) (marks : List ℕ) (right : right_bids paths bids ≡ true) (n m : ℕ) where
  abbrev awards : List Award
  awards = awards_of offered bids marks

  abbrev won : List ℕ
  won = below n (λ bid. won_by bid awards)

  abbrev prices : List ℕ
  prices = below m (λ path. price_on path awards)

  -- a charge by the tables is at most the charge by the awards
  pub charge-table : (k : ℕ) (b : Bid) → charge_at won prices k b ≤ charge_of k b awards
  charge-table k b =
      mul-le-mul (below-most m (λ path. price_on path awards) b.path) (below-most n (λ bid. won_by bid awards) k)

  charged-at : (k : ℕ) → k < length bids → Charged won prices marks k (get_or bids k no_bid)
  charged-at k inside =
      let b = get_or bids k no_bid in
      let table = charge-table k b in
      let most = charge-within paths offered bids marks right k no_bid inside in
      let fill = filled_within (won_by k awards) b.laminations in (
        omega (arith, table, most, fill),
        λ is.
            let none = over-wins-none paths offered bids marks right k no_bid inside is in
            let zeroth : charge_of k b awards ≡ 0 = ap (price_on b.path awards *◌) none ∙ mul-zero (price_on b.path awards) in
            omega (arith, table, zeroth),
      )

  charged-each : EachBid (Charged won prices marks) 0 bids
  charged-each = all-bids (Charged won prices marks) bids no_bid charged-at

-- ---- The limits

zeros-under : (n : ℕ) (l : List ℕ) → Under (replicate n 0) l
zeros-under zero l i = omega arith
zeros-under (suc n) l zero = omega arith
zeros-under (suc n) l (suc i) = omega (arith, zeros-under n [] i)

pub charged-limits :
    (paths :
    ℕ) (offered : List ℕ) (bids : List Bid) (limits : List ℕ) (right : right_bids paths bids ≡ true) (n m slots : ℕ) (i : ℕ)
    → get_or
    (charged_from (below n (λ bid. won_by bid (awards_of offered bids (marks_from limits (replicate slots 0) bids))))
    (below m (λ path. price_on path (awards_of offered bids (marks_from limits (replicate slots 0) bids)))) (replicate slots 0) 0 bids)
    i 0 ≤ get_or limits i 0
charged-limits paths offered bids limits right n m slots =
    let used : List ℕ = replicate slots 0 in
    let marks = marks_from limits used bids in
    let awards = awards_of offered bids marks in
    let won = below n (λ bid. won_by bid awards) in
    let prices = below m (λ path. price_on path awards) in
    charged-within won prices limits used used 0 bids refl (λ i. omega arith) (zeros-under slots limits)
    (paid-from won prices marks limits used 0 bids (λ j. ap (λ (k : ℕ). get_or marks k 0) (let e : 0 + j ≡ j = omega arith in e))
    (charged-each paths offered bids marks right n m))

-- the charges of a round, by bidder, are at most the bidding limits
pub charges-within-limits :
    (b : Book) (bids : List Bid) → right_bids b.path_count bids ≡ true → (i : ℕ)
    → get_or (charges_of (won_now b bids) (prices_now b bids) bids) i 0 ≤ get_or (bidding_limits b) i 0
unfolding awards_now
charges-within-limits b bids right =
    charged-limits b.path_count (offered_now b) bids (bidding_limits b) right bid_limit path_limit bidder_limit
