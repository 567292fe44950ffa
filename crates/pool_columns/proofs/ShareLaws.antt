-- Laws about the shares of a total: each pool can be shared, and the shares of both add up to the total.
use mathlib.Core.Path.{◌≡◌, refl, sym, ◌∙◌, ap}
use mathlib.Core.List.{List}
use Prim.Native.Nat.{ℕ, zero, suc, ◌-◌, ◌≤◌, ◌<◌}
use native.Mathlib.Omega.{arith}
use lib.ListN.{length, replicate}
use Rattle.market.specs.Answers.{first_of, no_refusal}
use Rattle.market.specs.Limits.{pool_limit, column_limit}
use Rattle.pool_sharing.proofs.Eligible.{eligible-length, eligible-total}
use Rattle.pool_sharing.proofs.SharingLaws.{shares-total, shares-length, nothing-shared}
use Rattle.pool_sharing.specs.Sharing.{total, pool_shares}
use Rattle.pool_columns.proofs.ColumnLaws.{totals-within, pool-within, shareable}
use Rattle.pool_columns.proofs.Together.{together-length, together-total}
use Rattle.pool_columns.specs.Pools.{provincial_pool, export_pool, provincial_weights, export_weights, together, shares_of, column_refusals}
use Rattle.pool_columns.specs.declared.Columns.{Columns}

-- a pool's shares add up to it, also where it is empty
nothing-in-all : (n : ℕ) → total (replicate n 0) ≡ 0
nothing-in-all zero = refl
nothing-in-all (suc n) = omega (arith, nothing-in-all n)

pub pool-total : (pool : ℕ) (weights : List ℕ) → (0 < pool → 0 < total weights) → total (pool_shares pool weights) ≡ pool
pool-total zero weights some = ap total (nothing-shared weights) ∙ nothing-in-all (length weights)
pool-total (suc n) weights some = shares-total (suc n) weights (some (omega arith))

-- a pool that can be shared by its weights
abbrev pub Ready : ℕ → List ℕ → Type 0
Ready pool weights = (pool ≤ pool_limit) × ((total weights ≤ column_limit) × (0 < pool → 0 < total weights))

pub ready-total : (pool : ℕ) (weights shares : List ℕ) → Ready pool weights → shares ≡ pool_shares pool weights → total shares ≤ pool_limit
ready-total pool weights shares ready is = omega (arith, ap total is ∙ pool-total pool weights ready.1.1, ready.0)

-- where the columns are not refused, both pools can be shared
module _ (d : ℕ) (cols : Columns) (most : d ≤ pool_limit) (none : first_of (column_refusals d cols) ≡ no_refusal) where
  pub provincial-ready : Ready (provincial_pool d cols) (provincial_weights cols)
  provincial-ready =
      let clear = shareable d cols none in
      let totals = totals-within cols clear.within in (
        omega (arith, pool-within d cols),
        (omega (arith, eligible-total cols.provincial cols.meters, totals.meters), clear.provincial),
      )

  pub export-ready : Ready (export_pool d cols) (export_weights cols)
  export-ready =
      let clear = shareable d cols none in
      let totals = totals-within cols clear.within in (
        omega arith,
        (omega (arith, eligible-total cols.export cols.interties, totals.interties), clear.export),
      )

-- shares that are computed step by step, as the code does, are the rule's
pub shared :
    (d :
    ℕ) (cols : Columns) (pool : ℕ) (v w x y r : List ℕ) → pool ≡ provincial_pool d cols → v ≡ provincial_weights cols → w ≡ export_weights cols → x ≡ pool_shares pool v → y ≡ pool_shares (d - pool) w
    → r ≡ together x y → r ≡ shares_of d cols
unfolding shares_of
shared d cols pool v w x y r pool-is v-is w-is x-is y-is r-is = rw (r-is, x-is, y-is, v-is, w-is, pool-is)

-- each column has one word for each participant
pub record Alike (cols : Columns) (n : ℕ) : Type 0 where
  pub provincial : length cols.provincial ≡ n
  pub export : length cols.export ≡ n
  pub meters : length cols.meters ≡ n
  pub interties : length cols.interties ≡ n

module _ (d : ℕ) (cols : Columns) (n : ℕ) (alike : Alike cols n) where
  provincial-length : length (pool_shares (provincial_pool d cols) (provincial_weights cols)) ≡ n
  provincial-length =
      shares-length (provincial_pool d cols) (provincial_weights cols)
      ∙ eligible-length cols.provincial cols.meters (alike.provincial ∙ sym alike.meters)
      ∙ alike.provincial

  export-length : length (pool_shares (export_pool d cols) (export_weights cols)) ≡ n
  export-length =
      shares-length (export_pool d cols) (export_weights cols)
      ∙ eligible-length cols.export cols.interties (alike.export ∙ sym alike.interties)
      ∙ alike.export

  -- each participant has a share
  pub all-have-shares : length (shares_of d cols) ≡ n
  unfolding shares_of
  all-have-shares =
      together-length (pool_shares (provincial_pool d cols) (provincial_weights cols)) (pool_shares (export_pool d cols) (export_weights cols))
      (provincial-length ∙ sym export-length)
      ∙ provincial-length

  -- the shares add up to the total
  pub shares-add-up : first_of (column_refusals d cols) ≡ no_refusal → total (shares_of d cols) ≡ d
  unfolding shares_of
  shares-add-up none =
      let clear = shareable d cols none in
      omega (
        arith,
        together-total (pool_shares (provincial_pool d cols) (provincial_weights cols)) (pool_shares (export_pool d cols) (export_weights cols))
            (provincial-length ∙ sym export-length),
        pool-total (provincial_pool d cols) (provincial_weights cols) clear.provincial,
        pool-total (export_pool d cols) (export_weights cols) clear.export,
        pool-within d cols,
      )
