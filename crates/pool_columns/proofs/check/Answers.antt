-- One case for each row of the table: each callee decides one row's test, and the case's law of ColumnLaws says what the
-- table's verdict then is (is-beyond to is_shared). The provincial pool is within the total, so the rest is not below 0.
use mathlib.Core.Path.{◌≡◌, sym, ◌∙◌, ap}
use mathlib.Core.Bool.{Bool, true, false}
use Prim.Native.Nat.{ℕ, ◌-◌}
use native.Mathlib.Omega.{arith}
use Rattle.market.specs.declared.units.Cents.{Cents}
use Rattle.pool_columns.proofs.ColumnLaws.{pool-within, unshared-is, is-beyond, is-uncharged, provincial-unshared, export-unshared, is_shared}
use Rattle.pool_columns.specs.Pools.{all_charges, provincial_pool, export_pool, provincial_weights, export_weights, columns_within, unshared}
use borrow.Author.Rules.{rules}
use Rattle.pool_columns.proofs.check.Goals.{After-is_unshared, After-is_unshared-2, After-provincial_pool-pool, Else-all_charges-eq0, Else-not-columns_within, Start}
use Rattle.pool_columns.proofs.check.Goals as goal

within : (p : Else-not-columns_within) → columns_within p.args.columns ≡ true
within p = sym p.columns_within.ensures ∙ p.if-not-columns_within.false

charged : (p : Else-all_charges-eq0) → all_charges p.args.columns ≡ 0 → ⊥
charged p z = p.if-all_charges-eq0.false (p.all_charges.ensures ∙ z)

module _ (p : After-provincial_pool-pool) where
  abbrev entry : Start
  entry = p.before.before.before.before.before

  pool-is : p.provincial_pool-pool.result.0 ≡ provincial_pool entry.args.total.0 entry.args.columns
  pool-is = ap (λ (x : Cents). x.0) p.provincial_pool-pool.ensures

-- whether each pool is unshared, by what its test returns
module _ (p : After-is_unshared) where
  abbrev start : Start
  start = p.before.before.before.before.before.before.before

  provincial-is : (t : Bool) → p.is_unshared.result ≡ t → unshared (provincial_pool start.args.total.0 start.args.columns) (provincial_weights start.args.columns) ≡ t
  provincial-is t = unshared-is _ _ _ _ _ t p.is_unshared.ensures (pool-is p.before.before) p.provincial_weights.ensures

module _ (p : After-is_unshared-2) where
  abbrev first : After-is_unshared
  first = p.before.before.before.before.before

  export_is : (t : Bool) → p.is_unshared-2.result ≡ t → unshared (export_pool (start first).args.total.0 (start first).args.columns) (export_weights (start first).args.columns) ≡ t
  export_is t =
      unshared-is _ _ _ _ _ t p.is_unshared-2.ensures (ap (λ (n : ℕ). (start first).args.total.0 - n) (pool-is first.before.before))
      p.export_weights.ensures

pub returns-then-not-columns_within : goal.returns-then-not-columns_within
returns-then-not-columns_within c =
    let a = c.args in
    is-beyond a.total.0 a.columns (sym c.columns_within.ensures ∙ c.if-not-columns_within.true)

pub returns-then-all_charges-eq0 : goal.returns-then-all_charges-eq0
returns-then-all_charges-eq0 c =
    let a = c.args in
    is-uncharged a.total.0 a.columns (within c.before.before) (sym c.all_charges.ensures ∙ c.if-all_charges-eq0.true)

pub provincial_pool-pool-requires : goal.provincial_pool-pool-requires
provincial_pool-pool-requires c = record {
  total_le_pool_limit = search rules;
  columns_value = within c.before.before;
  columns_nonzero = omega (arith, c.all_charges.ensures, c.if-all_charges-eq0.false);
}

pub returns-then-is_unshared : goal.returns-then-is_unshared
returns-then-is_unshared c =
    let p = c.before in
    let a = (start p).args in
    provincial-unshared a.total.0 a.columns (within p.before.before.before.before.before) (charged p.before.before.before) (provincial-is p true c.if-is_unshared.true)

pub overflow_sub-total : goal.overflow_sub-total
overflow_sub-total c =
    let p = c.before.before.before in
    let a = (start p).args in
    omega (arith, pool-is p.before.before, pool-within a.total.0 a.columns)

pub returns-then-is_unshared-2 : goal.returns-then-is_unshared-2
returns-then-is_unshared-2 c =
    let p = first c.before in
    let a = (start p).args in
    export-unshared a.total.0 a.columns (within p.before.before.before.before.before) (charged p.before.before.before)
    (provincial-is p false c.if-is_unshared.false) (export_is c.before true c.if-is_unshared-2.true)

pub returns : goal.returns
returns c =
    let p = first c.before in
    let a = (start p).args in
    is_shared a.total.0 a.columns (within p.before.before.before.before.before) (charged p.before.before.before)
    (provincial-is p false c.if-is_unshared.false) (export_is c.before false c.if-is_unshared-2.false)

pub all_charges-requires : goal.all_charges-requires
all_charges-requires c = within c
