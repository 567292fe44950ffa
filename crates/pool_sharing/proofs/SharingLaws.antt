-- The laws of a pool that is shared, for any number of participants: the shares add up to the pool, nobody without
-- weight gets a cent, and each share is its whole cents or one more.
use mathlib.Core.Path.{◌≡◌, refl, sym, ◌∙◌, ap, ap₂}
use mathlib.Core.List.{List, [], ◌∷◌, map}
use Prim.Native.Nat.{ℕ, ◌+◌, ◌*◌, ◌/◌, ◌%◌, ◌≤◌, ◌<◌}
use native.Mathlib.Nat.{div-add-mod', mod-lt, le_of_mul-le-mul_right, zero-mul, zero-div, zero-mod, zero-sub, mul-zero}
use native.Mathlib.Omega.{arith}
use lib.ListN.{length, get_or, replicate, length-map, get_or-map}
use Rattle.pool_sharing.proofs.Eligible.{eligible-at}
use Rattle.pool_sharing.proofs.HandOut.{Enough, Gets, Before, hand-out-length, hand-out-total, hand-out-gets, hand-out-order}
use Rattle.pool_sharing.proofs.Totals.{total-cons}
use Rattle.pool_sharing.specs.Sharing.{total, weight_of, eligible, floor_of, remainder_of, floors, remainders, left, pool_shares}

-- the whole cents and the remainders make up the pool
parts : (pool whole : ℕ) (l : List ℕ) → total (map (floor_of pool whole) l) * whole + total (map (remainder_of pool whole) l) ≡ pool * total l
parts pool whole [] = omega arith
parts pool whole (w ∷ l) =
    let floors_more = ap (λ (n : ℕ). n * whole) (total-cons (floor_of pool whole w) (map (floor_of pool whole) l)) in
    let rest_more = total-cons (remainder_of pool whole w) (map (remainder_of pool whole) l) in
    let whole_more = ap (λ (n : ℕ). pool * n) (total-cons w l) in
    omega (arith, floors_more, rest_more, whole_more, div-add-mod' (pool * w) whole, parts pool whole l)

-- a weight of 0 has neither whole cents nor a remainder
floor-of-none : (pool whole : ℕ) → floor_of pool whole 0 ≡ 0
floor-of-none pool whole = ap (λ (n : ℕ). n / whole) (mul-zero pool) ∙ zero-div whole

remainder-of-none : (pool whole : ℕ) → remainder_of pool whole 0 ≡ 0
remainder-of-none pool whole = ap (λ (n : ℕ). n % whole) (mul-zero pool) ∙ zero-mod whole

module _ (pool : ℕ) (weights : List ℕ) where
  pub floor-at : (i : ℕ) → get_or (floors pool weights) i 0 ≡ floor_of pool (total weights) (get_or weights i 0)
  floor-at i = rw (floor-of-none pool (total weights)) at (get_or-map (floor_of pool (total weights)) weights i 0)

  pub remainder-at : (i : ℕ) → get_or (remainders pool weights) i 0 ≡ remainder_of pool (total weights) (get_or weights i 0)
  remainder-at i =
      rw (remainder-of-none pool (total weights)) at (get_or-map (remainder_of pool (total weights)) weights i 0)

-- what the whole cents given leave of a pool, in parts of a cent
rest_of : (given left rest pool whole : ℕ) → given + left ≡ pool → given * whole + rest ≡ pool * whole → rest ≡ left * whole
rest_of given left rest pool whole p q = omega (arith, ap (λ (n : ℕ). n * whole) p)

module _ (pool : ℕ) (weights : List ℕ) (some : 0 < total weights) where
  -- the whole cents are within the pool
  pub floors-within : total (floors pool weights) ≤ pool
  floors-within =
      let whole = total weights in
      let all = parts pool whole weights in
      le_of_mul-le-mul_right {k = whole} (omega arith) some

  pub all-given : total (floors pool weights) + left pool weights ≡ pool
  all-given = omega (arith, floors-within)

  -- the remainders together, in parts of a cent, are the cents left
  remainders-total : total (remainders pool weights) ≡ left pool weights * total weights
  remainders-total =
      rest_of (total (floors pool weights)) (left pool weights) (total (remainders pool weights)) pool (total weights) all-given
      (parts pool (total weights) weights)

  start : Enough (total weights) (left pool weights) (remainders pool weights) (floors pool weights)
  start =
      record {
        alike = length-map weights (floor_of pool (total weights)) ∙ sym (length-map weights (remainder_of pool (total weights)));
        below = λ (i : ℕ). rw (remainder-at pool weights i) (mod-lt (pool * get_or weights i 0) some);
        enough = omega (arith, remainders-total);
      }

  -- the shares add up to the pool
  pub shares-total : total (pool_shares pool weights) ≡ pool
  unfolding pool_shares
  shares-total =
      hand-out-total (total weights) (left pool weights) (remainders pool weights) (floors pool weights) start ∙ all-given

  gets : (i : ℕ) → Gets (get_or (floors pool weights) i 0) (get_or (remainders pool weights) i 0) (get_or (pool_shares pool weights) i 0)
  unfolding pool_shares
  gets i = hand-out-gets (total weights) (left pool weights) (remainders pool weights) (floors pool weights) start i

  -- nobody without weight gets a cent
  pub no-weight-no-share : (i : ℕ) → get_or weights i 0 ≡ 0 → get_or (pool_shares pool weights) i 0 ≡ 0
  no-weight-no-share i h =
      let floor : get_or (floors pool weights) i 0 ≡ 0 = floor-at pool weights i ∙ ap (floor_of pool (total weights)) h ∙ floor-of-none pool (total weights) in
      let rem : get_or (remainders pool weights) i 0 ≡ 0 = remainder-at pool weights i ∙ ap (remainder_of pool (total weights)) h ∙ remainder-of-none pool (total weights) in
      let got = gets i in
      omega arith

  -- each share is its whole cents or one cent more
  pub share-at-least : (i : ℕ) → get_or (floors pool weights) i 0 ≤ get_or (pool_shares pool weights) i 0
  share-at-least i = (gets i).0

  pub share-at-most : (i : ℕ) → get_or (pool_shares pool weights) i 0 ≤ get_or (floors pool weights) i 0 + 1
  share-at-most i = let got = gets i in omega arith

  -- whoever gets a cent more than its whole cents has a larger remainder than anyone who gets none, or an equal one and a lower number
  pub cents-in-order :
      (i j : ℕ) → get_or (floors pool weights) i 0 < get_or (pool_shares pool weights) i 0 → get_or (pool_shares pool weights) j 0 ≡ get_or (floors pool weights) j 0
      → Before (remainders pool weights) i j
  unfolding pool_shares
  cents-in-order i j more none =
      hand-out-order (total weights) (left pool weights) (remainders pool weights) (floors pool weights) start i j more none

-- there is a share for each participant
pub shares-length : (pool : ℕ) (weights : List ℕ) → length (pool_shares pool weights) ≡ length weights
unfolding pool_shares
shares-length pool weights =
    hand-out-length (left pool weights) (remainders pool weights) (floors pool weights)
    ∙ length-map weights (floor_of pool (total weights))

-- every share of an empty pool is 0, with weights or without
floors-of-nothing : (whole : ℕ) (l : List ℕ) → map (floor_of 0 whole) l ≡ replicate (length l) 0
floors-of-nothing whole [] = refl
floors-of-nothing whole (w ∷ l) =
    ap₂ ◌∷◌ (ap (λ (n : ℕ). n / whole) (zero-mul w) ∙ zero-div whole) (floors-of-nothing whole l)

pub nothing-shared : (weights : List ℕ) → pool_shares 0 weights ≡ replicate (length weights) 0
unfolding pool_shares
nothing-shared weights = rw zero-sub (floors-of-nothing (total weights) weights)

-- nobody without a charge gets a cent of the pool
pub no-charge-no-share :
    (pool :
    ℕ) (charges energy : List ℕ) → length charges ≡ length energy → 0 < total (eligible charges energy) → (i : ℕ) → get_or charges i 0 ≡ 0
    → get_or (pool_shares pool (eligible charges energy)) i 0 ≡ 0
no-charge-no-share pool charges energy alike some i none =
    no-weight-no-share pool (eligible charges energy) some i
    (eligible-at charges energy i alike ∙ ap (λ (charge : ℕ). weight_of charge (get_or energy i 0)) none)
