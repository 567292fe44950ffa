-- Where the columns are not refused both pools can be shared (provincial-ready, export-ready), which gives what the
-- callees require; the results of the steps together are the rule's (shared).
use mathlib.Core.Path.{◌≡◌, ap}
use native.Mathlib.Omega.{arith}
use Rattle.market.specs.declared.units.Cents.{Cents}
use Rattle.pool_columns.proofs.ColumnLaws.{pool-within, shareable}
use Rattle.pool_columns.proofs.ShareLaws.{provincial-ready, export-ready, ready-total, shared}
use Rattle.pool_columns.specs.Pools.{provincial_pool}
use Rattle.pool_columns.proofs.shares_of.Goals.{After-provincial_pool-pool}
use Rattle.pool_columns.proofs.shares_of.Goals as goal

pool-is : (p : After-provincial_pool-pool) → p.provincial_pool-pool.result.0 ≡ provincial_pool p.args.total.0 p.args.columns
pool-is p = ap (λ (x : Cents). x.0) p.provincial_pool-pool.ensures

pub provincial_pool-pool-requires : goal.provincial_pool-pool-requires
provincial_pool-pool-requires c =
    let clear = shareable c.args.total.0 c.args.columns c.requires.columns_value in
    record {
      total_le_pool_limit = c.requires.total_le_pool_limit;
      columns_value = clear.within;
      columns_nonzero = clear.charged;
    }

pub share_pool-provincial-requires : goal.share_pool-provincial-requires
share_pool-provincial-requires c =
    let a = c.args in
    let ready = provincial-ready a.total.0 a.columns c.requires.total_le_pool_limit c.requires.columns_value in
    rw (pool-is c.before, c.provincial_weights.ensures)
    (record { pool_le_pool_limit = ready.0; weights_bound = ready.1.0; weights_nonzero = ready.1.1 })

pub overflow_sub-total : goal.overflow_sub-total
overflow_sub-total c =
    let p = c.before.before.before.before in
    omega (arith, pool-is p, pool-within p.args.total.0 p.args.columns)

pub share_pool-export-requires : goal.share_pool-export-requires
share_pool-export-requires c =
    let a = c.args in
    let ready = export-ready a.total.0 a.columns c.requires.total_le_pool_limit c.requires.columns_value in
    rw (pool-is c.before.before.before.before.before, c.export_weights.ensures)
    (record { pool_le_pool_limit = ready.0; weights_bound = ready.1.0; weights_nonzero = ready.1.1 })

pub add_shares-requires : goal.add_shares-requires
add_shares-requires c =
    let first = share_pool-provincial-requires c.before.before.before.before.before in
    let second = share_pool-export-requires c.before in
    record {
      first_bound =
          ready-total _ _ _ (first.pool_le_pool_limit, (first.weights_bound, first.weights_nonzero)) c.share_pool-provincial.ensures;
      second_bound =
          ready-total _ _ _ (second.pool_le_pool_limit, (second.weights_bound, second.weights_nonzero)) c.share_pool-export.ensures;
    }

pub returns : goal.returns
returns c =
    let last = c.before in
    let first = last.before.before.before.before in
    let pool = first.before.before in
    let a = pool.args in
    shared a.total.0 a.columns _ _ _ _ _ _ (pool-is pool) first.provincial_weights.ensures last.export_weights.ensures first.share_pool-provincial.ensures
    last.share_pool-export.ensures
    c.add_shares.ensures
