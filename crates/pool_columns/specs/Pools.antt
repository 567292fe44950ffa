-- The two pools of a total, the share of each participant in them, and the refusals of columns: rules 11.3, 11.4, 11.7 and 13.33.
use Rattle.std.specs.List.{zip}
use Rattle.std.specs.Prelude.{Bool, not, ◌&&◌, List, [], ◌∷◌, map, ℕ, ◌+◌, ◌-◌, ◌*◌, ◌/◌, leb, ltb, eqb}
use Rattle.market.specs.Answers.{Row, ◌gives◌}
use Rattle.market.specs.Limits.{column_limit}
use Rattle.market.specs.declared.answer.Refusal.{Refusal}
use Rattle.pool_sharing.specs.Sharing.{total, eligible, pool_shares}
use Rattle.pool_columns.specs.declared.Columns.{Columns}

-- ---- The shares

-- rule 11.3: P + E, the charges of both sorts
abbrev pub all_charges : Columns → ℕ
all_charges cols = total cols.provincial + total cols.export

-- rule 11.3: the provincial pool of D, and the export pool
abbrev pub provincial_pool : ℕ → Columns → ℕ
provincial_pool d cols = d * total cols.provincial / all_charges cols

abbrev pub export_pool : ℕ → Columns → ℕ
export_pool d cols = d - provincial_pool d cols

-- rule 11.4: the weights of each pool, by its own charges and its own energy
abbrev pub provincial_weights : Columns → List ℕ
provincial_weights cols = eligible cols.provincial cols.meters

abbrev pub export_weights : Columns → List ℕ
export_weights cols = eligible cols.export cols.interties

-- the sum of each participant's cents in two lists
abbrev pub together : List ℕ → List ℕ → List ℕ
together first second = map (λ p. p.0 + p.1) (zip first second)

-- rule 11.7: a participant's share is its cents of both pools
unfoldable pub shares_of : ℕ → Columns → List ℕ
shares_of d cols =
    together (pool_shares (provincial_pool d cols) (provincial_weights cols)) (pool_shares (export_pool d cols) (export_weights cols))

-- ---- Refusals

-- rule 13.33: no column adds up to more than the limit, where energy counts with or without a charge
abbrev pub columns_within : Columns → Bool
columns_within cols =
    leb (total cols.provincial) column_limit
    && leb (total cols.export) column_limit
    && leb (total cols.meters) column_limit
    && leb (total cols.interties) column_limit

-- rule 13.33: a pool is not 0, and all its weights are
abbrev pub unshared : ℕ → List ℕ → Bool
unshared pool weights = ltb 0 pool && eqb (total weights) 0

-- rule 13.33: a column adds up to too much, there are no charges, or one of the pools cannot be shared
abbrev pub column_refusals : ℕ → Columns → List Row
column_refusals d cols =
    (not (columns_within cols) gives Refusal.Columns)
    ∷ (eqb (all_charges cols) 0 gives Refusal.Columns)
    ∷ (unshared (provincial_pool d cols) (provincial_weights cols) gives Refusal.Columns)
    ∷ (unshared (export_pool d cols) (export_weights cols) gives Refusal.Columns)
    ∷ []
