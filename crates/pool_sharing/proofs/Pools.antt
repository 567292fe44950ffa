-- A pool that is shared step by step, as the code does, is shared as the rule says.
use mathlib.Core.Path.{◌≡◌, refl, sym, ◌∙◌, ap}
use mathlib.Core.List.{List, map}
use Prim.Native.Nat.{ℕ, zero, suc, ◌-◌, ◌≤◌, ◌<◌}
use native.Mathlib.Omega.{arith}
use lib.ListN.{length, replicate}
use Rattle.pool_sharing.proofs.SharingLaws.{floors-within, nothing-shared}
use Rattle.pool_sharing.specs.Sharing.{total, floor_of, remainder_of, floors, remainders, hand_out, pool_shares}

module _ (pool : ℕ) (weights : List ℕ) (whole : ℕ) (is : whole ≡ total weights) where
  -- with no weight the pool is empty, and every share is 0
  pub nothing : (0 < pool → 0 < total weights) → whole ≡ 0 → (n : ℕ) → length weights ≡ n → replicate n 0 ≡ pool_shares pool weights
  nothing some none n long = go pool refl
    where
      go : (p : ℕ) → pool ≡ p → replicate n 0 ≡ pool_shares pool weights
      go zero e = rw (e, ← long) (sym (nothing-shared weights))
      go (suc p) e = absurd (omega (arith, some (omega arith)))

  module _ (fs : List ℕ) (fs-is : fs ≡ map (floor_of pool whole) weights) where
    whole-cents : fs ≡ floors pool weights
    whole-cents = fs-is ∙ ap (λ (n : ℕ). map (floor_of pool n) weights) is

    pub within : (whole ≡ 0 → ⊥) → total fs ≤ pool
    within some = rw whole-cents (floors-within pool weights (omega arith))

    pub shared : (rs : List ℕ) (sum : ℕ) (got : List ℕ) → rs ≡ map (remainder_of pool whole) weights → sum ≡ total fs → got ≡ hand_out (pool - sum) rs fs → got ≡ pool_shares pool weights
    unfolding pool_shares
    shared rs sum got rs-is sum_is_lem got-is =
        let rest : rs ≡ remainders pool weights = rs-is ∙ ap (λ (n : ℕ). map (remainder_of pool n) weights) is in
        rw (got-is, sum_is_lem, rest, whole-cents)
