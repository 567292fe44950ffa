-- What each bid of a round won, and the sums of it over all bids.
use mathlib.Core.Path.{◌≡◌, refl, sym, ◌∙◌, ap, ap₂, subst}
use mathlib.Core.Bool.{Bool, true, false, cond}
use mathlib.Core.List.{List, [], ◌∷◌}
use Prim.Native.Nat.{ℕ, ◌+◌, ◌<◌}
use native.Mathlib.Omega.{arith}
use lib.Dec.{eqb, leb}
use lib.ListN.{length, get_or}
use borrow.Author.Tests.{le-leb, lt-leb, leb-true, leb-false, eqb-true, eqb-false}
use Rattle.market.specs.Limits.{header_words, admitted}
use Rattle.round_bids.specs.Bids.{Bid}
use Rattle.round_bids.specs.BidRefusals.{above_prices}
use Rattle.round_award_rules.specs.Awards.{Claim, Award, claims_in, claims_of_bid, in_order, walk, sum_of, won_by}
use Rattle.round_award_rules.specs.Rivals.{Each, filled_value, total_value_from}
use Rattle.round_award_rules.proofs.Claims.{each_map, EachAward, award-map}
use Rattle.round_award_rules.proofs.OrderLaws.{each-order}
use Rattle.round_award_rules.proofs.WalkLaws.{each-walk}
use Rattle.round_award_rules.proofs.PriceLaws.{won_value}
use Rattle.round_award_rules.proofs.BidClaims.{of_bid, each_of, Strict, of-order}
use Rattle.round_award_rules.proofs.RoundClaims.{EachBid, InBid, claims-of-bid, Own}
use Rattle.round_award_rules.proofs.FillLaws.{won-within, filled_claims, filled_in, filled_none, fills}

-- ---- One bid

module _ (claims : List Claim) (marks : List ℕ) (bid : ℕ) (b : Bid) (own : Own claims marks bid b) where
  -- its claims are on its path
  pub own-path : Each (λ l. l.bid ≡ bid → l.path ≡ b.path) claims
  own-path =
      each_of (λ l. l.path ≡ b.path) bid claims
      (subst (λ (ls : List Claim). Each (λ l. l.path ≡ b.path) ls) (sym own.are)
      (each_map {P = InBid bid b.path above_prices} {Q = λ l. l.path ≡ b.path} (λ l i. i.on) (claims_of_bid bid own.at b (get_or marks bid 0))
      (claims-of-bid bid own.at b (get_or marks bid 0) own.sound).0))

  pub own-path-won : (left : List ℕ) → EachAward (λ a. a.claim.bid ≡ bid → a.claim.path ≡ b.path) (walk left (in_order claims))
  own-path-won left =
      each-walk (λ l. l.bid ≡ bid → l.path ≡ b.path) left (in_order claims) (each-order (λ l. l.bid ≡ bid → l.path ≡ b.path) claims own-path)

  module _ (left : List ℕ) (strict : Strict claims) where
    -- among the claims in order they have the same order
    own-order : of_bid bid (in_order claims) ≡ claims_of_bid bid own.at b (get_or marks bid 0)
    own-order = of-order bid claims strict ∙ own.are

    -- a bid that is not admitted wins nothing
    pub over_none : eqb (get_or marks bid 0) admitted ≡ false → won_by bid (walk left (in_order claims)) ≡ 0
    over_none over =
        let none : of_bid bid (in_order claims) ≡ [] = own-order ∙ ap (λ (t : Bool). cond t (claims_in bid b.path (own.at + header_words) b.laminations) []) over in
        let most = won-within bid left (in_order claims) in
        omega (arith, most, ap (sum_of (λ (l : Claim). l.quantity)) none)

    -- rule 12.6: the bid value of what it won is that of its laminations, each filled before the next
    pub fills-bid : won_value bid (walk left (in_order claims)) ≡ filled_value (won_by bid (walk left (in_order claims))) b.laminations
    fills-bid =
        fills bid b.path left (in_order claims) (each-order (λ l. l.bid ≡ bid → l.path ≡ b.path) claims own-path)
        ∙ ap (filled_claims won) own-order
        ∙ go (eqb (get_or marks bid 0) admitted) refl
      where
        won : ℕ
        won = won_by bid (walk left (in_order claims))

        go : (t : Bool) → eqb (get_or marks bid 0) admitted ≡ t → filled_claims won (cond t (claims_in bid b.path (own.at + header_words) b.laminations) []) ≡ filled_value won b.laminations
        go true e = filled_in bid b.path (own.at + header_words) won b.laminations
        go false e = sym (filled_none won b.laminations (over_none e))

-- ---- All bids

-- a number of each bid, summed
abbrev pub sum_bids : (ℕ → Bid → ℕ) → ℕ → List Bid → ℕ
sum_bids f n [] = 0
sum_bids f n (b ∷ bs) = f n b + sum_bids f (n + 1) bs

pub value-sum : (won : ℕ → ℕ) (n : ℕ) (bs : List Bid) → total_value_from won n bs ≡ sum_bids (λ k b. filled_value (won k) b.laminations) n bs
value-sum won n [] = refl
value-sum won n (b ∷ bs) = ap (filled_value (won n) b.laminations +◌) (value-sum won (n + 1) bs)

-- a number of each award, summed over the awards of one bid, and over those of the bids from a number on
abbrev pub of_one : (Award → ℕ) → ℕ → List Award → ℕ
of_one f bid awards = sum_of (λ (a : Award). cond (eqb a.claim.bid bid) (f a) 0) awards

abbrev of_more : (Award → ℕ) → ℕ → List Award → ℕ
of_more f bid awards = sum_of (λ (a : Award). cond (leb bid a.claim.bid) (f a) 0) awards

split : (f : Award → ℕ) (n : ℕ) (awards : List Award) → of_more f n awards ≡ of_one f n awards + of_more f (n + 1) awards
split f n [] = refl
split f n (a ∷ awards) =
    omega (arith, one (eqb a.claim.bid n) (leb n a.claim.bid) (leb (n + 1) a.claim.bid) refl refl refl, split f n awards)
  where
    one : (r s t : Bool) → eqb a.claim.bid n ≡ r → leb n a.claim.bid ≡ s → leb (n + 1) a.claim.bid ≡ t → cond s (f a) 0 ≡ cond r (f a) 0 + cond t (f a) 0
    one true true true x y z = absurd (let no : ⊥ = omega (arith, eqb-true a.claim.bid n x, leb-true (n + 1) a.claim.bid z) in no)
    one true true false x y z = omega arith
    one true false t x y z = absurd (let no : ⊥ = omega (arith, eqb-true a.claim.bid n x, leb-false n a.claim.bid y) in no)
    one false true true x y z = omega arith
    one false true false x y z =
        let ne : a.claim.bid ≡ n → ⊥ = eqb-false a.claim.bid n x in
        absurd (let no : ⊥ = omega (arith, leb-true n a.claim.bid y, leb-false (n + 1) a.claim.bid z) in no)
    one false false true x y z = absurd (let no : ⊥ = omega (arith, leb-false n a.claim.bid y, leb-true (n + 1) a.claim.bid z) in no)
    one false false false x y z = omega arith

-- no bid has a number past the last
past-last : (f : Award → ℕ) (n : ℕ) (awards : List Award) → EachAward (λ a. a.claim.bid < n) awards → of_more f n awards ≡ 0
past-last f n [] h = refl
past-last f n (a ∷ awards) h =
    let here = ap (λ (t : Bool). cond t (f a) 0) (lt-leb n a.claim.bid h.0) in
    omega (arith, here, past-last f n awards h.1)

sums-from :
    (f :
    Award → ℕ) (g : ℕ → Bid → ℕ) (awards : List Award) (n : ℕ) (bs : List Bid) → EachAward (λ a. a.claim.bid < n + length bs) awards → EachBid (λ k b. of_one f k awards ≡ g k b) n bs
    → of_more f n awards ≡ sum_bids g n bs
sums-from f g awards n [] below h = past-last f n awards (award-map {P = λ a. a.claim.bid < n + 0} {Q = λ a. a.claim.bid < n} (λ a lt. omega arith) awards below)
sums-from f g awards n (b ∷ bs) below h =
    let rest = sums-from f g awards (n + 1) bs (award-map {P = λ a. a.claim.bid < n + length (b ∷ bs)} {Q = λ a. a.claim.bid < n + 1 + length bs} (λ a lt. omega arith) awards below) h.1 in
    omega (arith, split f n awards, h.0, rest)

-- a sum over awards is the sum over bids of each bid's part
pub sums-by-bid :
    (f :
    Award → ℕ) (g : ℕ → Bid → ℕ) (awards : List Award) (bs : List Bid) → EachAward (λ a. a.claim.bid < length bs) awards → EachBid (λ k b. of_one f k awards ≡ g k b) 0 bs
    → sum_of f awards ≡ sum_bids g 0 bs
sums-by-bid f g awards bs below h =
    all awards
    ∙ sums-from f g awards 0 bs (award-map {P = λ a. a.claim.bid < length bs} {Q = λ a. a.claim.bid < 0 + length bs} (λ a lt. omega arith) awards below) h
  where
    all : (rest : List Award) → sum_of f rest ≡ of_more f 0 rest
    all [] = refl
    all (a ∷ rest) =
        let here = ap (λ (t : Bool). cond t (f a) 0) (le-leb 0 a.claim.bid (omega arith)) in
        omega (arith, here, all rest)

-- of what a path sold, a bid's part is all that it won, or nothing
pub path-part :
    (bid own path : ℕ) (awards : List Award) → EachAward (λ a. a.claim.bid ≡ bid → a.claim.path ≡ own) awards
    → of_one (λ a. cond (eqb a.claim.path path) a.taken 0) bid awards ≡ cond (eqb own path) (won_by bid awards) 0
path-part bid own path [] on = none (eqb own path)
  where
    none : (t : Bool) → ◌≡◌ {A = ℕ} 0 (cond t 0 0)
    none true = refl
    none false = refl
path-part bid own path (a ∷ awards) on =
    both (eqb own path) (cond (eqb a.claim.bid bid) (cond (eqb a.claim.path path) a.taken 0) 0)
    (of_one (λ c. cond (eqb c.claim.path path) c.taken 0) bid awards) (cond (eqb a.claim.bid bid) a.taken 0) (won_by bid awards)
    (one (eqb a.claim.bid bid) (eqb own path) refl refl)
    (path-part bid own path awards on.1)
  where
    one : (t u : Bool) → eqb a.claim.bid bid ≡ t → eqb own path ≡ u → cond t (cond (eqb a.claim.path path) a.taken 0) 0 ≡ cond u (cond t a.taken 0) 0
    one true u x y =
        ap (λ (p : ℕ). cond (eqb p path) a.taken 0) (on.0 (eqb-true a.claim.bid bid x))
        ∙ ap (λ (t : Bool). cond t a.taken 0) y
    one false true x y = refl
    one false false x y = refl

    both : (u : Bool) (x x' y y' : ℕ) → x ≡ cond u y 0 → x' ≡ cond u y' 0 → x + x' ≡ cond u (y + y') 0
    both true x x' y y' p q = ap₂ ◌+◌ p q
    both false x x' y y' p q = ap₂ ◌+◌ p q
