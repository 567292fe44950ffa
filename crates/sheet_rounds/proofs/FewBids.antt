-- A bidder bids at most once for a path (rule 7.4): so a round takes at most as many bids as there are pairs of a bidder and a path.
use mathlib.Core.Path.{◌≡◌, refl, sym, ◌∙◌, ap, ap₂}
use mathlib.Core.Bool.{Bool, true, false, cond, not, ◌&&◌, ◌||◌, false≢true}
use mathlib.Core.List.{List, [], ◌∷◌}
use Prim.Native.Nat.{ℕ, zero, suc, ◌+◌, ◌*◌, ◌≤◌, ◌<◌}
use native.Mathlib.Omega.{arith}
use lib.Dec.{leb, ltb, eqb}
use lib.ListN.{length}
use borrow.Author.Tests.{ltb-true, eqb-true, eqb-false, eq-eqb, ne_eqb, not-true}
use Rattle.market.proofs.Tests.{left-true, right-true, neither-true}
use Rattle.market.specs.Limits.{bidder_limit, path_limit, lamination_limit}
use Rattle.round_award_rules.proofs.RoundClaims.{EachBid}
use Rattle.round_bids.specs.Bids.{Bid, header_of}
use Rattle.round_bids.specs.Encoding.{right_after, right_bids}
use Rattle.round_bids.specs.BidRefusals.{sound_laminations, above_prices, sound_header, sound_bid, has_bid, stamp_of}

-- ---- There are few different numbers below a bound

abbrev has : ℕ → List ℕ → Bool
has n [] = false
has n (k ∷ l) = eqb k n || has n l

abbrev Different : List ℕ → Type 0
Different [] = Unit {0}
Different (k ∷ l) = (has k l ≡ false) × Different l

abbrev Below : ℕ → List ℕ → Type 0
Below n [] = Unit {0}
Below n (k ∷ l) = (k < n) × Below n l

-- the list without the first place that holds the number
abbrev without : ℕ → List ℕ → List ℕ
without n [] = []
without n (k ∷ l) = cond (eqb k n) l (k ∷ without n l)

without-length : (n : ℕ) (l : List ℕ) → length l ≤ length (without n l) + 1
without-length n [] = omega arith
without-length n (k ∷ l) = go (eqb k n) (without-length n l)
  where
    go : (t : Bool) → length l ≤ length (without n l) + 1 → length (k ∷ l) ≤ length (cond t l (k ∷ without n l)) + 1
    go true h = omega arith
    go false h = omega arith

without-has : (n m : ℕ) (l : List ℕ) → has m l ≡ false → has m (without n l) ≡ false
without-has n m [] h = refl
without-has n m (k ∷ l) h =
    let both = neither-true (eqb k m) (has m l) h in
    go (eqb k n) both.0 both.1 (without-has n m l both.1)
  where
    go : (t : Bool) → eqb k m ≡ false → has m l ≡ false → has m (without n l) ≡ false → has m (cond t l (k ∷ without n l)) ≡ false
    go true first rest less = rest
    go false first rest less = ap (λ (s : Bool). s || has m (without n l)) first ∙ less

without-different : (n : ℕ) (l : List ℕ) → Different l → Different (without n l)
without-different n [] h = tt
without-different n (k ∷ l) h = go (eqb k n) (without-has n k l h.0) (without-different n l h.1)
  where
    go : (t : Bool) → has k (without n l) ≡ false → Different (without n l) → Different (cond t l (k ∷ without n l))
    go true first rest = h.1
    go false first rest = (first, rest)

-- numbers below `suc n` that are not `n` are below `n`
below_other : (n : ℕ) (l : List ℕ) → Below (suc n) l → has n l ≡ false → Below n l
below_other n [] b h = tt
below_other n (k ∷ l) b h =
    let both = neither-true (eqb k n) (has n l) h in
    (let less : k < n = omega (arith, b.0, eqb-false k n both.0) in less, below_other n l b.1 both.1)

without-below : (n : ℕ) (l : List ℕ) → Below (suc n) l → Different l → Below n (without n l)
without-below n [] b d = tt
without-below n (k ∷ l) b d = go (eqb k n) refl (without-below n l b.1 d.1)
  where
    go : (t : Bool) → eqb k n ≡ t → Below n (without n l) → Below n (cond t l (k ∷ without n l))
    go true e rest = below_other n l b.1 (ap (λ (m : ℕ). has m l) (sym (eqb-true k n e)) ∙ d.0)
    go false e rest = (let less : k < n = omega (arith, b.0, eqb-false k n e) in less, rest)

different-few : (n : ℕ) (l : List ℕ) → Below n l → Different l → length l ≤ n
different-few zero [] b d = omega arith
different-few zero (k ∷ l) b d = absurd (let none : ⊥ = omega (arith, b.0) in none)
different-few (suc n) l b d =
    omega (arith, without-length n l, different-few n (without n l) (without-below n l b d) (without-different n l d))

-- ---- Bids

-- bidder and path as one number
abbrev key_of : Bid → ℕ
key_of b = b.bidder * path_limit + b.path

abbrev keys : List Bid → List ℕ
keys [] = []
keys (b ∷ bs) = key_of b ∷ keys bs

keys_length : (bs : List Bid) → length (keys bs) ≡ length bs
keys_length [] = refl
keys_length (b ∷ bs) = ap suc (keys_length bs)

-- a bidder and a path of the largest book
abbrev pub Placed : Bid → Type 0
Placed b = (b.bidder < bidder_limit) × (b.path < path_limit)

abbrev AllPlaced : List Bid → Type 0
AllPlaced [] = Unit {0}
AllPlaced (b ∷ bs) = Placed b × AllPlaced bs

-- different pairs have different numbers
key-other : (b c : Bid) → Placed b → Placed c → (eqb c.bidder b.bidder && eqb c.path b.path) ≡ false → eqb (key_of c) (key_of b) ≡ false
key-other b c here there other =
    ne_eqb (key_of c) (key_of b)
    (λ (same : key_of c ≡ key_of b).
    let bidder : c.bidder ≡ b.bidder = omega (arith, same, here.1, there.1) in
    let path : c.path ≡ b.path = omega (arith, same, here.1, there.1) in
    false≢true (sym other ∙ ap₂ ◌&&◌ (eq-eqb c.bidder b.bidder bidder) (eq-eqb c.path b.path path)))

key-new : (b : Bid) (bs : List Bid) → Placed b → AllPlaced bs → has_bid b.bidder b.path bs ≡ false → has (key_of b) (keys bs) ≡ false
key-new b [] here all h = refl
key-new b (c ∷ bs) here all h =
    let parts = neither-true (eqb c.bidder b.bidder && eqb c.path b.path) (has_bid b.bidder b.path bs) h in
    ap (λ (t : Bool). t || has (key_of b) (keys bs)) (key-other b c here all.0 parts.0) ∙ key-new b bs here all.1 parts.1

keys_below : (bs : List Bid) → AllPlaced bs → Below (bidder_limit * path_limit) (keys bs)
keys_below [] all = tt
keys_below (b ∷ bs) all =
    (let less : key_of b < bidder_limit * path_limit = omega (arith, all.0.0, all.0.1) in less, keys_below bs all.1)

-- the bidder and the path of a sound bid
pub sound-placed : (paths : ℕ) (b : Bid) → paths ≤ path_limit → sound_bid paths b ≡ true → Placed b
sound-placed paths b few sound =
    let head = sound_header paths (header_of b) in
    let h = left-true head (sound_laminations above_prices b.laminations) sound in
    let s = ltb b.bidder bidder_limit in
    let t = ltb b.path paths in
    let one = leb 1 (length b.laminations) in
    let most = leb (length b.laminations) lamination_limit in
    let two = left-true (s && t) one (left-true (s && t && one) most h) in
    (ltb-true b.bidder bidder_limit (left-true s t two), let less : b.path < path_limit = omega (arith, ltb-true b.path paths (right-true s t two)) in less)

-- each bid that a round takes is sound
pub all_sound : (paths n : ℕ) (earlier bids : List Bid) → right_after paths earlier bids ≡ true → EachBid (λ k b. sound_bid paths b ≡ true) n bids
all_sound paths n earlier [] right = tt
all_sound paths n earlier (b ∷ bids) right =
    let sound = sound_bid paths b in
    let first = not (has_bid b.bidder b.path earlier) in
    let rises = leb (stamp_of earlier) b.stamp in
    let rest = right_after paths (b ∷ earlier) bids in
    let three = left-true (sound && first && rises) rest right in
    (left-true sound first (left-true (sound && first) rises three), all_sound paths (n + 1) (b ∷ earlier) bids (right-true (sound && first && rises) rest right))

after-few :
    (paths :
    ℕ) (earlier bids : List Bid) → paths ≤ path_limit → AllPlaced earlier → Different (keys earlier) → right_after paths earlier bids ≡ true
    → length earlier + length bids ≤ bidder_limit * path_limit
after-few paths earlier [] few all different right =
    omega (arith, keys_length earlier, different-few (bidder_limit * path_limit) (keys earlier) (keys_below earlier all) different)
after-few paths earlier (b ∷ bids) few all different right =
    let sound = sound_bid paths b in
    let first = not (has_bid b.bidder b.path earlier) in
    let rises = leb (stamp_of earlier) b.stamp in
    let rest = right_after paths (b ∷ earlier) bids in
    let three = left-true (sound && first && rises) rest right in
    let two = left-true (sound && first) rises three in
    let here = sound-placed paths b few (left-true sound first two) in
    let new = key-new b earlier here all (not-true (has_bid b.bidder b.path earlier) (right-true sound first two)) in
    omega (arith, after-few paths (b ∷ earlier) bids few (here, all) (new, different) (right-true (sound && first && rises) rest right))

-- a round has at most 512 bids
pub bids-at-most : (paths : ℕ) (bids : List Bid) → paths ≤ path_limit → right_bids paths bids ≡ true → length bids ≤ bidder_limit * path_limit
bids-at-most paths bids few right = omega (arith, after-few paths [] bids few tt tt right)
