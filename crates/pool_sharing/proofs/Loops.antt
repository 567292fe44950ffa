-- A product that fits, and the invariant of the loop that hands out cents.
use mathlib.Core.Path.{◌≡◌}
use mathlib.Core.List.{List}
use Prim.Native.Nat.{ℕ, suc, ◌+◌, ◌-◌, ◌*◌, ◌≤◌, ◌<◌}
use native.Mathlib.Nat.{mul-le-mul, sub-zero}
use native.Mathlib.Omega.{arith}
use Rattle.market.specs.Limits.{pool_limit, column_limit}
use Rattle.pool_sharing.specs.Sharing.{largest, one_more, spent, hand_out}

-- a product of a pool and a weight fits a word of 64 bits
pub product-within : (pool weight : ℕ) → pool ≤ pool_limit → weight ≤ column_limit → pool * weight ≤ pool_limit * column_limit
product-within pool weight p q = mul-le-mul p q

-- ---- the cents handed out so far: handing out the rest from here makes the same as handing out all from the start
abbrev pub Handed : ℕ → List ℕ → List ℕ → ℕ → List ℕ → List ℕ → Type 0
Handed cents remainders floors given rems shares = hand_out (cents - given) rems shares ≡ hand_out cents remainders floors

pub handed-start : (cents : ℕ) (rems shares : List ℕ) → Handed cents rems shares 0 rems shares
handed-start cents rems shares = rw sub-zero

module _ (cents : ℕ) (remainders floors : List ℕ) (given : ℕ) (rems shares : List ℕ) (h : Handed cents remainders floors given rems shares) where
  pub handed-next : (place : ℕ) → place ≡ largest rems → given < cents → Handed cents remainders floors (given + 1) (spent rems place) (one_more shares place)
  handed-next place is more =
      let one : cents - given ≡ suc (cents - (given + 1)) = omega arith in
      rw is (rw one at h)

  pub handed-all : cents ≤ given → shares ≡ hand_out cents remainders floors
  handed-all done =
      let none : cents - given ≡ 0 = omega arith in
      rw none at h
