-- The engine's award as a rival award, rule 12.6: the MW of each pair.
use mathlib.Core.Path.{◌≡◌, refl, sym, ◌∙◌, ap, ap₂}
use mathlib.Core.Bool.{Bool, true, false, cond}
use mathlib.Core.List.{List, [], ◌∷◌, ◌++◌}
use Prim.Native.Nat.{ℕ, ◌+◌, ◌*◌, ◌-◌, ◌≤◌, ◌<◌, min}
use native.Mathlib.Omega.{arith}
use lib.Dec.{eqb}
use lib.ListN.{length, get_or}
use borrow.Author.Tests.{lt-ltb, le-ltb, eq-eqb, ne_eqb}
use Rattle.market.specs.Limits.{header_words, pair_words, admitted}
use Rattle.round_bids.specs.Bids.{Bid}
use Rattle.round_bids.specs.declared.Lamination.{Lamination}
use Rattle.round_award_rules.specs.Awards.{Claim, next_at, claims_in, claims_of_bid, claims_from, sum_of}
use Rattle.round_award_rules.specs.Rivals.{Each, Rival, given_on, rival_value, filled_value, total_value_from, filled_at, filled_from}
use Rattle.round_award_rules.proofs.Claims.{each_map, each_append}
use Rattle.round_award_rules.proofs.RoundClaims.{EachBid}
use Rattle.round_award_rules.proofs.FillLaws.{filled_claims, filled_in, filled_none}
use Rattle.round_award_rules.proofs.RoundLaws.{sum_bids}

-- ---- Claims that an award fills in order

abbrev Fills : Rival → ℕ → List Claim → Type 0
Fills gives won [] = Unit {0}
Fills gives won (l ∷ ls) =
    (gives l.place ≡ min l.quantity won) × Fills gives (won - min l.quantity won) ls

-- an award that gives the same to each claim fills them too
fills_alike : (gives other : Rival) (won : ℕ) (ls : List Claim) → Each (λ l. other l.place ≡ gives l.place) ls → Fills gives won ls → Fills other won ls
fills_alike gives other won [] same h = tt
fills_alike gives other won (l ∷ ls) same h =
    (same.0 ∙ h.0, fills_alike gives other (won - min l.quantity won) ls same.1 h.1)

-- no claim gets more than its MW
fills-own : (gives : Rival) (won : ℕ) (ls : List Claim) → Fills gives won ls → Each (λ l. gives l.place ≤ l.quantity) ls
fills-own gives won [] h = tt
fills-own gives won (l ∷ ls) h =
    (omega (arith, h.0), fills-own gives (won - min l.quantity won) ls h.1)

-- together they get no more than was won
fills-given : (gives : Rival) (won path j : ℕ) (ls : List Claim) → Each (λ l. l.path ≡ path) ls → Fills gives won ls → given_on gives j ls ≤ cond (eqb path j) won 0
fills-given gives won path j [] on h = omega arith
fills-given gives won path j (l ∷ ls) on h =
    go (eqb path j)
    (ap (λ (p : ℕ). cond (eqb p j) (gives l.place) 0) on.0)
    (fills-given gives (won - min l.quantity won) path j ls on.1 h.1)
  where
    go :
        (t :
        Bool) → cond (eqb l.path j) (gives l.place) 0 ≡ cond t (gives l.place) 0 → given_on gives j ls ≤ cond t (won - min l.quantity won) 0
        → cond (eqb l.path j) (gives l.place) 0 + given_on gives j ls ≤ cond t won 0
    go true e k = omega (arith, h.0)
    go false e k = omega arith

-- and their bid value is that of filling them
fills-value : (gives : Rival) (won : ℕ) (ls : List Claim) → Fills gives won ls → rival_value gives ls ≡ filled_claims won ls
fills-value gives won [] h = refl
fills-value gives won (l ∷ ls) h =
    ap₂ ◌+◌ (ap (l.price *◌) h.0) (fills-value gives (won - min l.quantity won) ls h.1)

-- ---- Where the pairs of claims are

record Within (from to : ℕ) (l : Claim) : Type 0 where
  low : from ≤ l.place
  high : l.place < to

places-in : (bid path place : ℕ) (ls : List Lamination) → Each (Within place (place + length ls * pair_words)) (claims_in bid path place ls)
places-in bid path place [] = tt
places-in bid path place (l ∷ ls) = (
  record { low = omega arith; high = omega arith },
  each_map {P =
      Within (place + pair_words) (place + pair_words + length ls * pair_words)} {Q = Within place (place + length (l ∷ ls) * pair_words)} (λ m w. record
      { low = omega (arith, w.low); high = omega (arith, w.high) }) (claims_in bid path (place + pair_words) ls) (places-in bid path (place + pair_words) ls),
)

places-from : (n at : ℕ) (bs : List Bid) (marks : List ℕ) → Each (λ l. at ≤ l.place) (claims_from n at bs marks)
places-from n at [] marks = tt
places-from n at (b ∷ bs) marks =
    each_append (λ l. at ≤ l.place) (claims_of_bid n at b (get_or marks n 0)) (claims_from (n + 1) (next_at at b) bs marks)
    (go (eqb (get_or marks n 0) admitted))
    (each_map {P = λ l. next_at at b ≤ l.place} {Q = λ l. at ≤ l.place} (λ l w. omega arith) (claims_from (n + 1) (next_at at b) bs marks) (places-from (n + 1) (next_at at b) bs marks))
  where
    go : (t : Bool) → Each (λ l. at ≤ l.place) (cond t (claims_in n b.path (at + header_words) b.laminations) [])
    go true =
        each_map {P = Within (at + header_words) (at + header_words + length b.laminations * pair_words)} {Q = λ l. at ≤ l.place} (λ l w. omega (arith, w.low))
        (claims_in n b.path (at + header_words) b.laminations) (places-in n b.path (at + header_words) b.laminations)
    go false = tt

-- the claims of one bid are filled
filled-at : (bid path won place : ℕ) (ls : List Lamination) → Fills (filled_at won place ls) won (claims_in bid path place ls)
filled-at bid path won place [] = tt
filled-at bid path won place (l ∷ ls) =
    let here = min l.quantity.0 won in
    let later = filled_at (won - here) (place + pair_words) ls in (
      ap (λ (t : Bool). cond t here (later place)) (eq-eqb place place refl),
      fills_alike later (filled_at won place (l ∷ ls)) (won - here) (claims_in bid path (place + pair_words) ls)
          (each_map {P = Within (place + pair_words) (place + pair_words + length ls * pair_words)} {Q = λ m. filled_at won place (l ∷ ls) m.place ≡ later m.place}
          (λ m w. ap (λ (t : Bool). cond t here (later m.place)) (ne_eqb m.place place (λ same. omega (arith, same, w.low)))) (claims_in bid path (place + pair_words) ls)
          (places-in bid path (place + pair_words) ls))
          (filled-at bid path (won - here) (place + pair_words) ls),
    )

on-path : (bid path place : ℕ) (ls : List Lamination) → Each (λ l. l.path ≡ path) (claims_in bid path place ls)
on-path bid path place [] = tt
on-path bid path place (l ∷ ls) = (refl, on-path bid path (place + pair_words) ls)

-- ---- All bids

-- what an award gives the claims of bids: at most its own MW to each, at most what its bids won to each path, and their bid value
pub record Given (won : ℕ → ℕ) (n : ℕ) (bs : List Bid) (claims : List Claim) (gives : Rival) : Type 0 where
  pub own : Each (λ l. gives l.place ≤ l.quantity) claims
  pub shared : (path : ℕ) → given_on gives path claims ≤ sum_bids (λ k b. cond (eqb b.path path) (won k) 0) n bs
  pub value : rival_value gives claims ≡ total_value_from won n bs

sum-append : (f : Claim → ℕ) (ls ms : List Claim) → sum_of f (ls ++ ms) ≡ sum_of f ls + sum_of f ms
sum-append f [] ms = omega arith
sum-append f (l ∷ ls) ms = omega (arith, sum-append f ls ms)

-- awards that give the same to each claim have the same sum
sum_alike :
    (f : Claim → ℕ → ℕ) (gives other : Rival) (ls : List Claim) → Each (λ l. other l.place ≡ gives l.place) ls
    → sum_of (λ l. f l (other l.place)) ls ≡ sum_of (λ l. f l (gives l.place)) ls
sum_alike f gives other [] same = refl
sum_alike f gives other (l ∷ ls) same = ap₂ ◌+◌ (ap (f l) same.0) (sum_alike f gives other ls same.1)

-- a bid's part
one-bid :
    (gives :
    Rival) (won bid at : ℕ) (b : Bid) (mark : ℕ) → (eqb mark admitted ≡ false → won ≡ 0)
    → ((l : Claim) → l.place < next_at at b → gives l.place ≡ filled_at won (at + header_words) b.laminations l.place)
    → Each (λ l. gives l.place ≤ l.quantity) (claims_of_bid bid at b mark)
    × (((path : ℕ) → given_on gives path (claims_of_bid bid at b mark) ≤ cond (eqb b.path path) won 0) × (rival_value gives (claims_of_bid bid at b mark) ≡ filled_value won b.laminations))
one-bid gives won bid at b mark none is = go (eqb mark admitted) refl
  where
    claims : List Claim
    claims = claims_in bid b.path (at + header_words) b.laminations

    fill : Fills gives won claims
    fill =
        fills_alike (filled_at won (at + header_words) b.laminations) gives won claims
        (each_map {P = Within (at + header_words) (at + header_words + length b.laminations * pair_words)} {Q = λ l. gives l.place ≡ filled_at won (at + header_words) b.laminations l.place}
        (λ l w. is l w.high) claims (places-in bid b.path (at + header_words) b.laminations))
        (filled-at bid b.path won (at + header_words) b.laminations)

    go :
        (t :
        Bool) → eqb mark admitted ≡ t
        → Each (λ l. gives l.place ≤ l.quantity) (cond t claims [])
        × (((path : ℕ) → given_on gives path (cond t claims []) ≤ cond (eqb b.path path) won 0) × (rival_value gives (cond t claims []) ≡ filled_value won b.laminations))
    go true e = (
      fills-own gives won claims fill,
      (
        (λ path. fills-given gives won b.path path claims (on-path bid b.path (at + header_words) b.laminations) fill),
        fills-value gives won claims fill ∙ filled_in bid b.path (at + header_words) won b.laminations,
      ),
    )
    go false e = (tt, ((λ path. omega arith), sym (filled_none won b.laminations (none e))))

own-alike : (gives other : Rival) (ls : List Claim) → Each (λ l. other l.place ≡ gives l.place) ls → Each (λ l. gives l.place ≤ l.quantity) ls → Each (λ l. other l.place ≤ l.quantity) ls
own-alike gives other [] same h = tt
own-alike gives other (l ∷ ls) same h = (omega (arith, same.0, h.0), own-alike gives other ls same.1 h.1)

-- a bid's part together with the later bids' parts
joined :
    (won :
    ℕ → ℕ) (n : ℕ) (b : Bid) (bs : List Bid) (own others : List Claim) (gives later : Rival)
    → Each (λ l. gives l.place ≤ l.quantity) own × (((path : ℕ) → given_on gives path own ≤ cond (eqb b.path path) (won n) 0) × (rival_value gives own ≡ filled_value (won n) b.laminations))
    → Each (λ l. gives l.place ≡ later l.place) others → Given won (n + 1) bs others later → Given won n (b ∷ bs) (own ++ others) gives
joined won n b bs own others gives later first same rest =
    record {
      own = each_append (λ l. gives l.place ≤ l.quantity) own others first.0 (own-alike later gives others same rest.own);
      shared = λ path.
          let all = sum-append (λ (l : Claim). cond (eqb l.path path) (gives l.place) 0) own others in
          let after = sum_alike (λ (l : Claim) (given : ℕ). cond (eqb l.path path) given 0) later gives others same in
          omega (arith, all, after, first.1.0 path, rest.shared path);
      value =
          let all = sum-append (λ (l : Claim). l.price * gives l.place) own others in
          let after = sum_alike (λ (l : Claim) (given : ℕ). l.price * given) later gives others same in
          omega (arith, all, after, first.1.1, rest.value);
    }

-- and the parts of all bids
pub given-from :
    (won :
    ℕ → ℕ) (marks : List ℕ) (n at : ℕ) (bs : List Bid) → EachBid (λ k b. eqb (get_or marks k 0) admitted ≡ false → won k ≡ 0) n bs
    → Given won n bs (claims_from n at bs marks) (filled_from won n at bs)
given-from won marks n at [] none = record { own = tt; shared = λ path. omega arith; value = refl }
given-from won marks n at (b ∷ bs) none =
    let gives = filled_from won n at (b ∷ bs) in
    let later = filled_from won (n + 1) (next_at at b) bs in
    let here = filled_at (won n) (at + header_words) b.laminations in
    let own = claims_of_bid n at b (get_or marks n 0) in
    let others = claims_from (n + 1) (next_at at b) bs marks in
    let first = one-bid gives (won n) n at b (get_or marks n 0) none.0 (λ l below. ap (λ (t : Bool). cond t (here l.place) (later l.place)) (lt-ltb l.place (next_at at b) below)) in
    let rest = given-from won marks (n + 1) (next_at at b) bs none.1 in
    let same : Each (λ l. gives l.place ≡ later l.place) others =
    each_map {P =
    λ l. next_at at b ≤ l.place} {Q = λ l. gives l.place
    ≡ later l.place} (λ l from. ap (λ (t : Bool). cond t (here l.place) (later l.place)) (le-ltb l.place (next_at at b) from)) others (places-from (n + 1) (next_at at b) bs marks) in
    joined won n b bs own others gives later first same rest
